-- What contracts see of a trace file that is being written.
use Rattle.std.specs.Prelude.{ℕ, Bool}
use Rattle.nm_pcap.specs.declared.form.Form.{Form}

-- the sink, how the file is written, how many octets the sink took (which stops at 2 ^ 64 - 1),
-- and whether it has failed
pub record Writer (W : Type 0) : Type 0 where
  pub sink : W
  pub form : Form
  pub written : ℕ
  pub failed : Bool
