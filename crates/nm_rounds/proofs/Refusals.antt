-- What a message says of what is known of its channel, and what a refusal leaves.
use Rattle.std.proofs.Common.{◌≡◌, ◌≢◌, ◌==◌, ◌++◌, ℕ, ltb, Bool, true, false, cond, List, [], ◌∷◌, length, slice_index_or, Option, Some, None, refl, sym, ◌∙◌}
use Rattle.nm_knowledge.specs.Answers.{reason}
use Rattle.nm_knowledge.specs.Octets.{same_octets}
use Rattle.nm_knowledge.specs.declared.answer.KnowFault.{KnowFault}
use Rattle.nm_knowledge.specs.declared.answer.KnowFault.TheVariants as fault
use Rattle.nm_model.specs.Accept as accept
use Rattle.nm_model.specs.Knowledge.{Know, nothing_known}
use Rattle.nm_model.specs.Lists.{nth}
use Rattle.nm_book.specs.Book.{message_channel}
use Rattle.nm_book.specs.Accepting.{message_taken}
use Rattle.nm_book.specs.declared.message.ChannelMessage.{ChannelMessage}
use Rattle.nm_book.specs.declared.message.ChannelMessage.TheVariants.{Data as DataMessage, Null as NullMessage}

-- what the model's function says of a message over some knowledge of its channel
abbrev pub said_of : Know (List ℕ) → ChannelMessage → accept.Accepted (List ℕ)
said_of a (DataMessage d) = accept.accept_data same_octets a d.number (d.time, d.packet)
said_of a (NullMessage n) = accept.accept_null a n.count n.clock

pub taken_is : (knows : List (Know (List ℕ))) (m : ChannelMessage) → message_taken knows m ≡ said_of (slice_index_or knows (message_channel m) nothing_known) m
taken_is knows (DataMessage d) = refl
taken_is knows (NullMessage n) = refl

-- only what is new, or a greater clock, changes what is known
data_keeps : (o : Option (ℕ × List ℕ)) (a : Know (List ℕ)) (n : ℕ) (b : ℕ × List ℕ) → (accept.data_at same_octets o a n b).answer ≢ accept.New → (accept.data_at same_octets o a n b).after ≡ a
data_keeps (Some m) a n b h = refl
data_keeps None a n b h = pick (n == length a.list) (ltb b.0 a.clock) (accept.last_from b.0 a.list) h
  where
    chosen : Bool → Bool → Bool → accept.Accepted (List ℕ)
    chosen x y z =
        cond x
        (cond y (record { answer = accept.Late a.clock; after = a }) (cond {A = accept.Accepted (List ℕ)} z (record { answer = accept.NotRising; after = a }) (record { answer = accept.New; after = record { list = a.list ++ b ∷ []; clock = b.0 } })))
        (record { answer = accept.Gap (length a.list); after = a })

    pick : (x y z : Bool) → (chosen x y z).answer ≢ accept.New → (chosen x y z).after ≡ a
    pick false y z h = refl
    pick true true z h = refl
    pick true false true h = refl
    pick true false false h = absurd (h refl)

null_keeps : (o : Option (ℕ × List ℕ)) (a : Know (List ℕ)) (n k : ℕ) → (accept.null_at o a n k).answer ≢ accept.Raised → (accept.null_at o a n k).after ≡ a
null_keeps (Some m) a n k h = refl
null_keeps None a n k h = pick (n == length a.list) (ltb a.clock k) h
  where
    chosen : Bool → Bool → accept.Accepted (List ℕ)
    chosen x y = cond x (cond {A = accept.Accepted (List ℕ)} y (record { answer = accept.Raised; after = record a { clock = k } }) (record { answer = accept.Known; after = a })) (record { answer = accept.Gap (length a.list); after = a })

    pick : (x y : Bool) → (chosen x y).answer ≢ accept.Raised → (chosen x y).after ≡ a
    pick false y h = refl
    pick true false h = refl
    pick true true h = absurd (h refl)

-- a reason that a fault gives is neither
no_reason : (f : KnowFault) (a : accept.Answer) → Some a ≡ reason f → (a ≢ accept.New) × (a ≢ accept.Raised)
no_reason (fault.Gap n) a e = let g : a ≡ accept.Gap n = cc in ((λ h. let k : accept.Gap n ≡ accept.New = sym g ∙ h in cc), (λ h. let k : accept.Gap n ≡ accept.Raised = sym g ∙ h in cc))
no_reason (fault.Differs n) a e = let g : a ≡ accept.Differs n = cc in ((λ h. let k : accept.Differs n ≡ accept.New = sym g ∙ h in cc), (λ h. let k : accept.Differs n ≡ accept.Raised = sym g ∙ h in cc))
no_reason (fault.Late n) a e = let g : a ≡ accept.Late n = cc in ((λ h. let k : accept.Late n ≡ accept.New = sym g ∙ h in cc), (λ h. let k : accept.Late n ≡ accept.Raised = sym g ∙ h in cc))
no_reason fault.NotRising a e = let g : a ≡ accept.NotRising = cc in ((λ h. let k : accept.NotRising ≡ accept.New = sym g ∙ h in cc), (λ h. let k : accept.NotRising ≡ accept.Raised = sym g ∙ h in cc))
no_reason fault.Memory a e = absurd cc
no_reason (fault.Contrary n) a e = let g : a ≡ accept.Contrary n = cc in ((λ h. let k : accept.Contrary n ≡ accept.New = sym g ∙ h in cc), (λ h. let k : accept.Contrary n ≡ accept.Raised = sym g ∙ h in cc))

pub refused_keeps : (m : ChannelMessage) (a : Know (List ℕ)) (f : KnowFault) → Some (said_of a m).answer ≡ reason f → (said_of a m).after ≡ a
refused_keeps (DataMessage d) a f e = data_keeps (nth a.list d.number) a d.number (d.time, d.packet) (no_reason f _ e).0
refused_keeps (NullMessage n) a f e = null_keeps (nth a.list n.count) a n.count n.clock (no_reason f _ e).1
