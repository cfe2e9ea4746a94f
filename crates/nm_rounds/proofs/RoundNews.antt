-- What is told of a channel: the messages that the receiver does not know, and the null message.
use Rattle.std.proofs.Common.{◌≡◌, ◌++◌, ℕ, suc, List, [], ◌∷◌, length, drop, map, refl, sym, ◌∙◌, ap, ap₂, ⊎_elim}
use Rattle.nm_topology.specs.Topology.{receiving_iface}
use Rattle.nm_topology.specs.TopologyValue.{TopologyValue}
use Rattle.nm_knowledge.specs.Octets.{same_octets}
use Rattle.nm_model.specs.Accept.{accept_data}
use Rattle.nm_model.specs.Knowledge.{Know}
use Rattle.nm_model.specs.Promise.{Tight}
use Rattle.nm_model.specs.Rounds.{hear_list}
use Rattle.nm_model.specs.World.{data_frames}
use Rattle.nm_book.specs.Book.{BookValue, message_channel, null_on, sent_over}
use Rattle.nm_book.specs.declared.message.ChannelMessage.{ChannelMessage}
use Rattle.nm_book.specs.declared.message.ChannelMessage.TheVariants.{Data as DataMessage, Null as NullMessage}
use Rattle.nm_book.specs.declared.message.Null.{Null}
use Rattle.nm_rounds.specs.World.{AreMessages, frame_of}
use Rattle.nm_rounds.specs.Rounds.{AreNews, AreOfChannel, told_all, told_message}
use Rattle.nm_rounds.proofs.Standing.{get_append, only_one}
use Rattle.nm_rounds.proofs.RoundTells.{told_append}

-- messages that are told one after another are heard as a list
told_list : (t : TopologyValue) (i n : ℕ) (l : List (ℕ × List ℕ)) (messages : List ChannelMessage) (a : Know (List ℕ)) → map (frame_of t) messages ≡ data_frames i n l → told_all a messages ≡ hear_list same_octets a n l
told_list t i n [] [] a e = refl
told_list t i n [] (m ∷ messages) a e = cc
told_list t i n (b ∷ l) [] a e = cc
told_list t i n (b ∷ l) (DataMessage d ∷ messages) a e =
    let number : d.number ≡ n = cc in
    let entry : ◌≡◌ {A = ℕ × List ℕ} (d.time, d.packet) b = cc in
    let rest : map (frame_of t) messages ≡ data_frames i (suc n) l = cc in
    ap₂ (λ k m. told_all (accept_data same_octets a k m).after messages) number entry ∙ told_list t i (suc n) l messages (accept_data same_octets a n b).after rest
told_list t i n (b ∷ l) (NullMessage x ∷ messages) a e = cc

of_one_more : (c : ℕ) (messages : List ChannelMessage) (m : ChannelMessage) → AreOfChannel c messages → message_channel m ≡ c → AreOfChannel c (messages ++ m ∷ [])
of_one_more c messages m are same i x e = ⊎_elim (λ f. are i x f) (λ f. ap message_channel (sym (only_one m x f.0 f.1)) ∙ same) (get_append messages (m ∷ []) i x e)

-- told to who knows a of channel c: the messages behind those that are known, and the null message
pub news_all : (a : Know (List ℕ)) (sender : BookValue) (c : ℕ) (messages : List ChannelMessage) (null : Null) → AreMessages sender c (length a.list) messages → null ≡ null_on Tight sender c
    → AreNews a sender c (messages ++ NullMessage null ∷ [])
news_all a sender c messages null are is = record {
  told =
      told_append a messages (NullMessage null) ∙ ap (λ z. told_message (told_all a messages) (NullMessage z)) is
      ∙ ap (λ z. told_message z (NullMessage (null_on Tight sender c)))
      (told_list sender.topology (receiving_iface sender.topology c) (length a.list) (drop (length a.list) (sent_over sender c)) messages a are.frames);
  named = of_one_more c messages (NullMessage null) are.named (ap (λ z. z.channel) is);
}
