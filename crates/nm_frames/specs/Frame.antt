-- Frames and their octets.
use Rattle.std.specs.Prelude.{◌≡◌, ℕ, ◌<◌, ◌≤◌, ◌^◌, List, [], ◌∷◌, ◌++◌, length, flat_map}
use Rattle.std.specs.Int.{w16, w32, w64, to_be_bytes}
use Rattle.nm_base.specs.declared.limits.TheConstants.{MAX_PACKET_OCTETS}
use Rattle.nm_frames.specs.declared.format.TheConstants.{DIGEST_OCTETS, MAGIC}
use Rattle.nm_frames.specs.declared.format.kind.TheConstants.{HELLO, HAVE, DATA, NULL, BYE}
use Rattle.nm_frames.specs.declared.frame.Frame.{Frame}
use Rattle.nm_frames.specs.declared.frame.Frame.TheVariants.{Hello, Have, Data, Null, Bye}

-- frames by their fields
abbrev pub hello_frame : ℕ → ℕ → ℕ → List ℕ → Frame
hello_frame v p r d = Hello (record { version = v; partition = p; replica = r; digest = d })

abbrev pub have_frame : ℕ → ℕ → Frame
have_frame c n = Have (record { channel = c; count = n })

abbrev pub data_frame : ℕ → ℕ → ℕ → List ℕ → Frame
data_frame c n t p = Data (record { channel = c; number = n; time = t; packet = p })

abbrev pub null_frame : ℕ → ℕ → ℕ → Frame
null_frame c n t = Null (record { channel = c; count = n; clock = t })

-- the kind, and then the fields; all numbers are big-endian
abbrev pub frame_body : Frame → List ℕ
frame_body (Hello h) =
    HELLO ∷ MAGIC ++ to_be_bytes w16 h.version ++ to_be_bytes w32 h.partition
    ++ h.replica ∷ h.digest
frame_body (Have h) = HAVE ∷ to_be_bytes w32 h.channel ++ to_be_bytes w64 h.count
frame_body (Data d) =
    DATA ∷ to_be_bytes w32 d.channel ++ to_be_bytes w64 d.number ++ to_be_bytes w64 d.time
    ++ d.packet
frame_body (Null n) =
    NULL ∷ to_be_bytes w32 n.channel ++ to_be_bytes w64 n.count ++ to_be_bytes w64 n.clock
frame_body Bye = BYE ∷ []

-- the length of the body before it
abbrev pub frame_octets : Frame → List ℕ
frame_octets f = to_be_bytes w32 (length (frame_body f)) ++ frame_body f

-- each field fits its octets: a frame may have any version, partition, replica and channel
abbrev pub IsFrame : Frame → Type 0
IsFrame (Hello h) =
    (h.version < 2 ^ 16) × (h.partition < 2 ^ 32) × (h.replica < 256)
    × (length h.digest ≡ DIGEST_OCTETS)
IsFrame (Have h) = (h.channel < 2 ^ 32) × (h.count < 2 ^ 64)
IsFrame (Data d) =
    (d.channel < 2 ^ 32) × (d.number < 2 ^ 64) × (d.time < 2 ^ 64) × (1 ≤ length d.packet)
    × (length d.packet ≤ MAX_PACKET_OCTETS)
IsFrame (Null n) = (n.channel < 2 ^ 32) × (n.count < 2 ^ 64) × (n.clock < 2 ^ 64)
IsFrame Bye = Unit {0}

abbrev pub stream_octets : List Frame → List ℕ
stream_octets frames = flat_map frame_octets frames
