-- A Hello on a connection that a caller began.
use Rattle.std.proofs.Common.{◌≡◌, ℕ, false, map, Some, refl}
use Rattle.std.specs.Prelude.{is_some, option_map}
use Rattle.nm_frames.specs.declared.replica_name.ReplicaName.{ReplicaName}
use Rattle.nm_policy.specs.Contact.{met, replaced_by}
use Rattle.nm_policy.specs.Contacts.{ContactsValue, contact_at, greeted_at, with_contact}
use Rattle.nm_policy.specs.declared.contact.Contact.{Contact}

pub greets_caller : (s : ContactsValue) (key : ℕ) (name : ReplicaName) (c : Contact) → contact_at s.connections key ≡ Some c → is_some c.name ≡ false → is_some c.peer ≡ false
    → greeted_at key name (contact_at s.connections key) s
    ≡ record s {
      connections =
          with_contact key (met name c) (map (option_map (replaced_by name)) s.connections);
    }
greets_caller s key name c at unnamed uncalled = rw (at, unnamed, uncalled) refl
