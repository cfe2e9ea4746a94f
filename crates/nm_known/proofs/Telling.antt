-- What the frames of a file tell of a channel.
use Rattle.std.proofs.Common.{◌≡◌, ℕ, zero, suc, ◌<◌, ◌≤◌, ◌==◌, Bool, true, false, if◌then◌else◌, List, [], ◌∷◌, ◌++◌, flat_map, length, refl, sym, ◌∙◌, ap, ap₂, ⊎_elim, arith, append-nil, length-append}
use Rattle.std.proofs.lemmas.Grind.{flat_map-append}
use Rattle.nm_model.specs.Knowledge.{Know}
use Rattle.nm_model.proofs.ListLemmas.{equal_or_less, number_apart, number_tied}
use Rattle.nm_book.specs.Book.{BookValue, is_incoming}
use Rattle.nm_frames.specs.declared.frame.Frame.{Frame}
use Rattle.nm_frames.specs.declared.frame.Frame.TheVariants.{Hello, Have, Data, Null, Bye}
use Rattle.nm_known.specs.Known.{IsOfReplica, KnowsSame, channel_frames, channel_known, frames_below, known_frames, message_frames, told_of}
use Rattle.nm_known.proofs.Going.{same_channels, same_count}

-- what a frame tells of channel c: a message, or a clock
abbrev tells : ℕ → Frame → List (ℕ × List ℕ)
tells c (Hello h) = []
tells c (Have h) = []
tells c (Data d) = if d.channel == c then (d.time, d.packet) ∷ [] else []
tells c (Null n) = if n.channel == c then (n.clock, []) ∷ [] else []
tells c Bye = []

-- all that is known, in one list
abbrev all_known : Know (List ℕ) → List (ℕ × List ℕ)
all_known k = k.list ++ (k.clock, []) ∷ []

own_messages : (c n : ℕ) (l : List (ℕ × List ℕ)) → flat_map (tells c) (message_frames c n l) ≡ l
own_messages c n [] = refl
own_messages c n (m ∷ l) = ap (λ (z : Bool). (if z then m ∷ [] else []) ++ flat_map (tells c) (message_frames c (suc n) l)) (number_tied c) ∙ ap (λ r. m ∷ r) (own_messages c (suc n) l)

far_messages : (c d n : ℕ) (l : List (ℕ × List ℕ)) → (d == c) ≡ false → flat_map (tells c) (message_frames d n l) ≡ []
far_messages c d n [] far = refl
far_messages c d n (m ∷ l) far = ap (λ (z : Bool). (if z then m ∷ [] else []) ++ flat_map (tells c) (message_frames d (suc n) l)) far ∙ far_messages c d (suc n) l far

both : (c : ℕ) (a b : List Frame) → flat_map (tells c) (a ++ b) ≡ flat_map (tells c) a ++ flat_map (tells c) b
both c a b = flat_map-append (tells c) a b

own_channel : (c : ℕ) (k : Know (List ℕ)) → flat_map (tells c) (channel_frames c k) ≡ all_known k
own_channel c k =
    both c (message_frames c 0 k.list) _
    ∙ ap₂ (λ l (z : Bool). l ++ ((if z then (k.clock, []) ∷ [] else []) ++ [])) (own_messages c 0 k.list) (number_tied c)

far_channel : (c d : ℕ) (k : Know (List ℕ)) → (d == c) ≡ false → flat_map (tells c) (channel_frames d k) ≡ []
far_channel c d k far =
    both c (message_frames d 0 k.list) _
    ∙ ap₂ (λ l (z : Bool). l ++ ((if z then (k.clock, []) ∷ [] else []) ++ [])) (far_messages c d 0 k.list far) far

module _ (b : BookValue) (c : ℕ) where
  far_told : (d : ℕ) → (d == c) ≡ false → flat_map (tells c) (told_of b d) ≡ []
  far_told d far = pick (is_incoming b d)
    where
      pick : (z : Bool) → flat_map (tells c) (if z then channel_frames d (channel_known b d) else []) ≡ []
      pick true = far_channel c d (channel_known b d) far
      pick false = refl

  none_below : (n : ℕ) → n ≤ c → flat_map (tells c) (frames_below b n) ≡ []
  none_below zero low = refl
  none_below (suc n) low = both c (frames_below b n) (told_of b n) ∙ ap₂ (λ k l. k ++ l) (none_below n (omega (arith, low))) (far_told n (number_apart n c (λ e. omega (arith, low, e))))

  at_once : is_incoming b c ≡ true → flat_map (tells c) (frames_below b (suc c)) ≡ all_known (channel_known b c)
  at_once comes =
      both c (frames_below b c) (told_of b c)
      ∙ ap₂ (λ l (z : Bool). l ++ flat_map (tells c) (if z then channel_frames c (channel_known b c) else [])) (none_below c (omega arith)) comes
      ∙ own_channel c (channel_known b c)

  told_below_number : (n : ℕ) → c < n → is_incoming b c ≡ true → flat_map (tells c) (frames_below b n) ≡ all_known (channel_known b c)
  told_below_number zero low comes = absurd (omega (arith, low))
  told_below_number (suc n) low comes = ⊎_elim
      (λ e. ap (λ k. flat_map (tells c) (frames_below b (suc k))) (sym e) ∙ at_once comes)
      (λ less. both c (frames_below b n) (told_of b n) ∙ ap₂ (λ k l. k ++ l) (told_below_number n less comes) (far_told n (number_apart n c (λ e. omega (arith, less, e)))) ∙ append-nil (all_known (channel_known b c)))
      (equal_or_less c n (omega (arith, low)))

-- of two lists with one element more each the parts are the same
one_end : {X : Type 0} (xs ys : List X) (x y : X) → xs ++ x ∷ [] ≡ ys ++ y ∷ [] → (xs ≡ ys) × (x ≡ y)
one_end [] [] x y e = (refl, cc)
one_end [] (z ∷ ys) x y e = let long = ap length e in let l = length-append ys (y ∷ []) in absurd (omega (arith, long, l))
one_end (z ∷ xs) [] x y e = let long = ap length e in let l = length-append xs (x ∷ []) in absurd (omega (arith, long, l))
one_end (z ∷ xs) (w ∷ ys) x y e =
    let first : z ≡ w = cc in
    let rest : xs ++ x ∷ [] ≡ ys ++ y ∷ [] = cc in
    let more = one_end xs ys x y rest in
    (ap₂ (λ k l. k ∷ l) first more.0, more.1)

same_known : (k j : Know (List ℕ)) → all_known k ≡ all_known j → k ≡ j
same_known k j e =
    let parts = one_end k.list j.list (k.clock, []) (j.clock, []) e in
    ap₂ (λ l t. record { list = l; clock = t }) parts.0 (ap (λ (m : ℕ × List ℕ). m.0) parts.1)

-- two books with one file know the same
pub one_knowledge : (b other : BookValue) → IsOfReplica b other → known_frames b ≡ known_frames other → KnowsSame b other
one_knowledge b other ok same = λ c low comes.
    same_known (channel_known other c) (channel_known b c)
    (sym (told_below_number other c (length other.topology.receivers) (let count = same_count b other ok in omega (arith, low, count)) (same_channels b other ok c ∙ comes))
    ∙ ap (flat_map (tells c)) (sym same)
    ∙ told_below_number b c (length b.topology.receivers) low comes)
