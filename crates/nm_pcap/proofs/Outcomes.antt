-- Two calls that write one after the other.
use Rattle.std.proofs.Common.{◌≡◌, ℕ, ◌+◌, ◌<◌, ◌^◌, take, drop, length, List, [], ◌++◌, true, false, append-nil, Some, None, Option, Result, Ok, Err, sym, ◌∙◌, ap, subst, arith, length-append, refl}
use Rattle.std.proofs.Math.Seq.{take-append-add, take-add}
use Rattle.std.proofs.lemmas.List.{take-append-le, take-append-drop}
use Rattle.std.specs.Io.KnownBytes.{Appends}
use Rattle.nm_base.specs.Sink.{SinkSeen}
use Rattle.nm_base.proofs.Sinks.{Appends-append}
use Rattle.nm_pcap.specs.declared.writer.PcapFault.{PcapFault}
use Rattle.nm_pcap.specs.declared.writer.PcapFault.TheVariants.{File, Failed}
use Rattle.nm_pcap.specs.Writer.{Writer}
use Rattle.nm_base.specs.Count.{saturated}
use Rattle.nm_pcap.specs.Outcome.{AddedAll, Adds}

saturated-add : (k m n : ℕ) → saturated (saturated (k + m) + n) ≡ saturated (k + (m + n))
saturated-add k m n = omega arith

count-append : {W : Type 0} (old mid new : Writer W) (a : List ℕ) (n m : ℕ) → mid.written ≡ saturated (old.written + length a) → new.written ≡ saturated (mid.written + n) → m ≡ length a + n → new.written ≡ saturated (old.written + m)
count-append old mid new a n m first second sum = omega (arith, first, second, sum)

module _ {W : Type 0} (seen : W → SinkSeen) where
  -- a fault in the first call
  pub Adds-err : (old new : Writer W) (e : PcapFault) (a b : List ℕ) → Adds seen old new (Err e) a → Adds seen old new (Err e) (a ++ b)
  Adds-err old new (File n) a b w = record {
    sound = w.sound;
    part = w.part;
    short = let h = w.short in let l = length-append a b in omega (arith, h, l);
    front = subst (λ l. Appends (seen old.sink).taken (seen new.sink).taken l) (sym (take-append-le w.part a b (let h = w.short in omega (arith, h)))) w.front;
    fault = w.fault;
    count = w.count;
    told = w.told;
    over = w.over;
    same_form = w.same_form;
  }
  Adds-err old new Failed a b w = w

  -- no fault in the first call
  pub Adds-ok : (old mid new : Writer W) (r : Result Unit PcapFault) (a b : List ℕ) → AddedAll seen old mid a → Adds seen mid new r b → Adds seen old new r (a ++ b)
  Adds-ok old mid new (Ok _) a b v w = record {
    sound = v.sound;
    whole = Appends-append (seen old.sink).taken (seen mid.sink).taken (seen new.sink).taken a b v.whole w.whole;
    no_fault = w.no_fault ∙ v.no_fault;
    count = count-append old mid new a (length b) (length (a ++ b)) v.count w.count (length-append a b);
    still_sound = w.still_sound;
    same_form = w.same_form ∙ v.same_form;
  }
  Adds-ok old mid new (Err (File n)) a b v w = record {
    sound = v.sound;
    part = length a + w.part;
    short = let h = w.short in let l = length-append a b in omega (arith, h, l);
    front = subst (λ l. Appends (seen old.sink).taken (seen new.sink).taken l) (sym (take-append-add a b w.part)) (Appends-append (seen old.sink).taken (seen mid.sink).taken (seen new.sink).taken a (take w.part b) v.whole w.front);
    fault = w.fault ∙ ap (λ n. n + 1) v.no_fault;
    count = count-append old mid new a w.part (length a + w.part) v.count w.count refl;
    told = w.told;
    over = w.over;
    same_form = w.same_form ∙ v.same_form;
  }
  Adds-ok old mid new (Err Failed) a b v w = let e : false ≡ true = sym v.still_sound ∙ w.over in cc

  -- nothing written is nothing added
  pub AddedAll-nil : (w : Writer W) → w.failed ≡ false → w.written < 2 ^ 64 → AddedAll seen w w []
  AddedAll-nil w sound few = record {
    sound = sound;
    whole = nothing (seen w.sink).taken;
    no_fault = refl;
    count = omega (arith, few);
    still_sound = sound;
    same_form = refl;
  }
    where
      nothing : (o : Option (List ℕ)) → Appends o o []
      nothing None = tt
      nothing (Some l) = sym (append-nil l)

  -- no call changes the form
  pub Adds-form : (old new : Writer W) (r : Result Unit PcapFault) (a : List ℕ) → Adds seen old new r a → new.form ≡ old.form
  Adds-form old new (Ok _) a w = w.same_form
  Adds-form old new (Err (File n)) a w = w.same_form
  Adds-form old new (Err Failed) a w = ap (λ (x : Writer W). x.form) w.same

  -- A list written piece by piece, where f says what is written of a list: k octets after the first n.
  module _ (f : List ℕ → List ℕ) (join : (a b : List ℕ) → f (a ++ b) ≡ f a ++ f b) where
    pub next_piece : (old mid new : Writer W) (l piece : List ℕ) (n k : ℕ) → piece ≡ take k (drop n l) → AddedAll seen old mid (f (take n l)) → AddedAll seen mid new (f piece) → AddedAll seen old new (f (take (n + k) l))
    next_piece old mid new l piece n k is v w =
        subst (AddedAll seen old new) (sym (ap f (take-add n k l ∙ ap (λ p. take n l ++ p) (sym is)) ∙ join (take n l) piece))
        (Adds-ok old mid new (Ok tt) (f (take n l)) (f piece) v w)

    -- the sink failed in it
    pub last_piece : (old mid new : Writer W) (e : PcapFault) (l piece : List ℕ) (n k : ℕ) → piece ≡ take k (drop n l) → AddedAll seen old mid (f (take n l)) → Adds seen mid new (Err e) (f piece) → Adds seen old new (Err e) (f l)
    last_piece old mid new e l piece n k is v w =
        let parts : take (n + k) l ≡ take n l ++ piece = take-add n k l ∙ ap (λ p. take n l ++ p) (sym is) in
        subst (Adds seen old new (Err e))
        (sym (ap f (sym (take-append-drop (n + k) l)) ∙ join (take (n + k) l) (drop (n + k) l) ∙ ap (λ x. x ++ f (drop (n + k) l)) (ap f parts ∙ join (take n l) piece)))
        (Adds-err old new e _ _ (Adds-ok old mid new (Err e) _ _ v w))
