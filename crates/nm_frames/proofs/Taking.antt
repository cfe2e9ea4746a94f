-- What becomes of a frame that a session takes, by its kind.
use Rattle.std.proofs.Common.{◌≡◌, ℕ, ◌==◌, Bool, true, false, List, map, Ok, Err, if◌then◌else◌, sym, ap, ◌∙◌}
use Rattle.std.specs.List.{list_any}
use Rattle.nm_book.specs.declared.message.Data.{Data as DataMessage}
use Rattle.nm_book.specs.declared.message.Null.{Null as NullMessage}
use Rattle.nm_frames.specs.declared.frame.Frame.{Frame}
use Rattle.nm_frames.specs.declared.frame.Frame.TheVariants.{Have, Data, Null}
use Rattle.nm_frames.specs.declared.frame.Have.{Have as HaveValue}
use Rattle.nm_frames.specs.declared.session_fault.SessionFault.TheVariants.{Channel}
use Rattle.nm_frames.specs.declared.side.ChannelIn.{ChannelIn}
use Rattle.nm_frames.specs.declared.side.ChannelOut.{ChannelOut}
use Rattle.nm_frames.specs.Session.{SessionValue, with_channel, restarted, taken_later}

pub have_refused : (s : SessionValue) (f : Frame) (h : HaveValue) (os : List ChannelOut) (b : Bool) → f ≡ Have h → s.outgoing ≡ os → b ≡ list_any (λ o. o.channel == h.channel) os → b ≡ false → taken_later s f ≡ Err Channel
have_refused s f h os b is same test out =
    ap (taken_later s) is
    ∙ ap (λ (x : Bool). if x then Ok (record s { outgoing = map (with_channel h.channel (restarted h.count)) s.outgoing }) else Err Channel) (ap (λ l. list_any (λ o. o.channel == h.channel) l) same ∙ sym test ∙ out)

module _ (s : SessionValue) (is : List ChannelIn) (b : Bool) (same : s.incoming ≡ is) where
  test_is : (c : ℕ) (x : Bool) → b ≡ list_any (λ i. i.channel == c) is → b ≡ x → list_any (λ i. i.channel == c) s.incoming ≡ x
  test_is c x test e = ap (λ l. list_any (λ i. i.channel == c) l) same ∙ sym test ∙ e

  pub data_refused : (f : Frame) (d : DataMessage) → f ≡ Data d → b ≡ list_any (λ i. i.channel == d.channel) is → b ≡ false → taken_later s f ≡ Err Channel
  data_refused f d e test out = ap (taken_later s) e ∙ ap (λ (x : Bool). if x then Ok s else Err Channel) (test_is d.channel false test out)

  pub data_taken : (f : Frame) (d : DataMessage) → f ≡ Data d → b ≡ list_any (λ i. i.channel == d.channel) is → b ≡ true → taken_later s f ≡ Ok s
  data_taken f d e test in_it = ap (taken_later s) e ∙ ap (λ (x : Bool). if x then Ok s else Err Channel) (test_is d.channel true test in_it)

  pub null_refused : (f : Frame) (n : NullMessage) → f ≡ Null n → b ≡ list_any (λ i. i.channel == n.channel) is → b ≡ false → taken_later s f ≡ Err Channel
  null_refused f n e test out = ap (taken_later s) e ∙ ap (λ (x : Bool). if x then Ok s else Err Channel) (test_is n.channel false test out)

  pub null_taken : (f : Frame) (n : NullMessage) → f ≡ Null n → b ≡ list_any (λ i. i.channel == n.channel) is → b ≡ true → taken_later s f ≡ Ok s
  null_taken f n e test in_it = ap (taken_later s) e ∙ ap (λ (x : Bool). if x then Ok s else Err Channel) (test_is n.channel true test in_it)
