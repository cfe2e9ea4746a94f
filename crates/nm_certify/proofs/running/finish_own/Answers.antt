use Rattle.std.proofs.Common.{◌≡◌, ◌<◌, ◌≤◌, ◌+◌, ◌∙◌, ℕ, IfSome, Ok, OnOk, true, length, sym, ap, subst, arith, rules}
use Rattle.nm_model.specs.Partition.{receiver_of}
use Rattle.nm_sim.specs.Network.{net_of}
use Rattle.nm_files.specs.Checked.{HaveRead, is_looked_at}
use Rattle.nm_files.specs.Least.{AreOpenBelow, AreReadBelow, IsFinished}
use Rattle.nm_files.specs.TraceFile.{octets_after}
use Rattle.nm_certify.specs.Checking.{EndsAs, IsUnlikeTheirs}
use Rattle.nm_certify.proofs.Ends.{ends_as, finished_theirs, one_further, open_before, other_part, read_theirs}
use Rattle.nm_certify.proofs.running.finish_own.Goals as goal
use Rattle.nm_certify.proofs.running.finish_own.Goals.{then-eq+in_ok-finish, else-eq}

pub loop-number-init : goal.loop-number-init
loop-number-init g c =
    let left = g.B.Read.remaining in
    let files = c.args.files.now in
    record {
      within = omega arith;
      read = λ texts begun records h. (subst (λ r. OnOk r (AreReadBelow texts left begun records files)) c.in_ok-checked.was h).read;
      least = λ texts begun records h. read_theirs texts c.args.topology.now c.args.partition records left begun files (subst (λ r. OnOk r (AreReadBelow texts left begun records files)) c.in_ok-checked.was h);
      whole = λ texts begun records h n low own seen. absurd (omega (arith, low));
    }

pub loop-number-preserved : goal.loop-number-preserved
loop-number-preserved g c =
    let t = c.args.topology.now in
    let p = c.args.partition in
    let n = c.loop-number.number in
    let mid = c.loop-number.files in
    let was = c.loop-number.invariant in
    let left = g.B.Read.remaining in
    let low : n < length t.ifaces = search rules in
    let same : c.iface_number-iface.result ≡ n = search rules in
    elim c.if-eq.branch [
      | then-eq+in_ok-finish w ↦ record {
        within = omega (arith, low);
        read = λ texts begun records h. subst (λ f. HaveRead texts left records f.files.files.items) (sym w.files-is) (w.in_ok-finish.ensures texts records (was.read texts begun records h)).read;
        least = λ texts begun records h. subst (λ f. AreOpenBelow begun (IsUnlikeTheirs texts t p records begun) f.files.files.items f.differs) (sym w.files-is)
            (finished_theirs texts t p records left begun c.iface_number-iface.result mid w.finish.new.self (sym c.partition_of.ensures ∙ search rules)
            (w.in_ok-finish.ensures texts records (was.read texts begun records h)) (was.least texts begun records h));
        whole = λ texts begun records h. subst (λ f. (m : ℕ) → m < n + 1 → receiver_of (net_of t) m ≡ p → is_looked_at f.files.files.items m ≡ true → IfSome (texts m) (λ text. text ≡ octets_after m records)) (sym w.files-is)
            (let done = w.in_ok-finish.ensures texts records (was.read texts begun records h) in
            one_further (λ m. receiver_of (net_of t) m ≡ p → is_looked_at w.finish.new.self.files.files.items m ≡ true → IfSome (texts m) (λ text. text ≡ octets_after m records)) n
            (λ m less own seen. was.whole texts begun records h m less own (open_before texts t p records left begun c.iface_number-iface.result m mid w.finish.new.self done seen))
            (λ own seen. subst (λ k. is_looked_at w.finish.new.self.files.files.items k ≡ true → IfSome (texts k) (λ text. text ≡ octets_after k records)) same done.whole seen));
      }
      | else-eq w ↦ record {
        within = omega (arith, low);
        read = λ texts begun records h. subst (λ f. HaveRead texts left records f.files.files.items) (sym w.files-is) (was.read texts begun records h);
        least = λ texts begun records h. subst (λ f. AreOpenBelow begun (IsUnlikeTheirs texts t p records begun) f.files.files.items f.differs) (sym w.files-is) (was.least texts begun records h);
        whole = λ texts begun records h. subst (λ f. (m : ℕ) → m < n + 1 → receiver_of (net_of t) m ≡ p → is_looked_at f.files.files.items m ≡ true → IfSome (texts m) (λ text. text ≡ octets_after m records)) (sym w.files-is)
            (one_further (λ m. receiver_of (net_of t) m ≡ p → is_looked_at mid.files.files.items m ≡ true → IfSome (texts m) (λ text. text ≡ octets_after m records)) n (was.whole texts begun records h)
            (λ own seen. let part : c.partition_of.result ≡ p = c.partition_of.ensures ∙ ap (receiver_of (net_of t)) same ∙ own in absurd (other_part c.partition_of.result p part w.if-eq.ensures)));
      }
    ]

pub returns : goal.returns
returns g c = λ texts begun records are h.
    let t = c.args.topology.now in
    let p = c.args.partition in
    let was = c.loop-number.invariant in
    let over : length t.ifaces ≤ c.loop-number.number = search rules in
    subst (λ o. EndsAs texts t p records begun (Ok o)) (sym c.difference.ensures)
    (ends_as texts t p records g.B.Read.remaining begun c.loop-number.files.files.files.items c.loop-number.files.differs are (was.least texts begun records h)
    (λ n low own seen. was.whole texts begun records h n (omega (arith, low, over)) own seen))
