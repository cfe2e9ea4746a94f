-- Why serving ends.
use Rattle.std.proofs.Common.{◌≡◌, inl, inr, true, false, ap, sym, ◌∙◌}
use Rattle.nm_base.specs.declared.fault.Fault.{Fault}
use Rattle.nm_base.specs.declared.fault.Fault.TheVariants.{Refused}
use Rattle.nm_base.specs.declared.fault.Fault.TheVariants as fault
use Rattle.nm_files.specs.declared.trace_files.FileFault.{FileFault}
use Rattle.nm_replica.specs.declared.served.Served.{Served}
use Rattle.nm_replica.specs.declared.served.Served.TheVariants.{Net, Memory, File}
use Rattle.nm_replica.specs.Served.{EndsEarly, file_served, took_all}

-- of those who end early the files of one took all, to whom the network failed
pub net_alone : {A : Type 0} (s : Served) → took_all s ≡ true → EndsEarly s → (s ≡ Net → A) → A
net_alone s is (inl net) h = h net
net_alone s is (inr (inl memory)) h = absurd (let e : false ≡ true = sym (ap took_all memory) ∙ is in cc)
net_alone s is (inr (inr (iface, written, file))) h = absurd (let e : false ≡ true = sym (ap took_all file) ∙ is in cc)

-- where a file failed, the network did not
pub is_no_net : {A : Type 0} (f : Fault FileFault) → file_served f ≡ Net → A
is_no_net (Refused f) is = absurd (let e : File f.iface f.written ≡ Net = is in cc)
is_no_net fault.Memory is = absurd (let e : Memory ≡ Net = is in cc)
