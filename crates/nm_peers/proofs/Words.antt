-- The words of a listener.
use Rattle.std.proofs.Common.{◌≡◌, ℕ, ◌<◌, ◌^◌, ◌⊎◌, inl, inr, List, [], ◌∷◌, ◌++◌, Some, decimal, codes, sym, subst, ◌∙◌, arith, append_assoc}
use Rattle.std.specs.Int.{IsInRange}
use Rattle.std.specs.List.{All}
use Rattle.std.proofs.lemmas.Bool.Decides.{nat_tests}
use Rattle.std.proofs.lemmas.Fmt.{decimal_injective}
use Rattle.std.proofs.lemmas.List.Elements.{All-append, All-get_or, All-from_get_or}
use Rattle.std.specs.declared.net.socket_addr.SocketAddrV4.{SocketAddrV4}
use Rattle.std.specs.Net.Addr.{ipv4_octets}
use Rattle.std.specs.Net.Grammar.{IsDotted, IsIpv4Text}
use Rattle.std.specs.Net.Socket.{IsSocketAddrV4, v4_ip, v4_port}
use Rattle.std.specs.Net.Text.{ipv4_text, socket_v4_text}
use Rattle.std.proofs.NetLemmas.Alphabet.{All-ipv4_text, IsDigitOrDot}
use Rattle.std.proofs.NetLemmas.Texts.{IsDotted-ipv4_text}
use Rattle.std.proofs.NetLemmas.Theorems.{IsIpv4Text_unique}
use Rattle.nm_base.specs.Text.{HasNo}
use Rattle.nm_peers.specs.declared.listener.Listener.{Listener}
use Rattle.nm_peers.specs.Listeners.{Fits, listener_words}
use Rattle.nm_base.proofs.Splits.{IsNot, has_it, no_digit, one_split}

-- an octet that is no digit and no dot, as a line feed, a space and a colon
abbrev pub IsMark : ℕ → Type 0
IsMark c = (c < 46) ⊎ (57 < c)

other_digit : (c d : ℕ) → IsMark c → IsInRange 48 57 d → IsNot c d
other_digit c d (inl h) r = grind (arith, nat_tests)
other_digit c d (inr h) r = grind (arith, nat_tests)

other_dot : (c d : ℕ) → IsMark c → IsDigitOrDot d → IsNot c d
other_dot c d h (inl r) = other_digit c d h r
other_dot c d (inl h) (inr r) = grind (arith, nat_tests)
other_dot c d (inr h) (inr r) = grind (arith, nat_tests)

weaken : (P Q : ℕ → Type 0) → ((d : ℕ) → P d → Q d) → (xs : List ℕ) → All P xs → All Q xs
weaken P Q f xs h = All-from_get_or Q xs 0 (λ i l. f _ (All-get_or P xs i 0 l h))

pub no_mark : (c n : ℕ) → IsMark c → n < 2 ^ 64 → HasNo c (decimal n)
no_mark c n h fits = no_digit c n fits (λ d r. other_digit c d h r)

abbrev pub ip_of : SocketAddrV4 → List ℕ
ip_of s = ipv4_text (ipv4_octets (v4_ip s))

no_mark_ip : (c : ℕ) (s : SocketAddrV4) → IsMark c → IsSocketAddrV4 s → HasNo c (ip_of s)
no_mark_ip c s h fits = weaken IsDigitOrDot (IsNot c) (λ d r. other_dot c d h r) (ip_of s) (All-ipv4_text (ipv4_octets (v4_ip s)) fits.0.1)

-- the text of a listener and a port, at its colon
socket_parts : (s : SocketAddrV4) → socket_v4_text s ≡ ip_of s ++ 58 ∷ decimal (v4_port s)
socket_parts s = append_assoc (ip_of s) (58 ∷ []) (decimal (v4_port s))

-- the words of a listener at the first space, and behind it
abbrev pub behind_first : Listener → List ℕ
behind_first a = decimal a.replica ++ 32 ∷ socket_v4_text a.address

words_parts : (a : Listener) → listener_words a ≡ decimal a.partition ++ 32 ∷ behind_first a
words_parts a = simp append_assoc

-- ---- a word that is split at its colon
pub socket_has : (word : List ℕ) (s : SocketAddrV4) → word ≡ socket_v4_text s → HasNo 58 word → ⊥
socket_has word s e none = has_it 58 (ip_of s) (decimal (v4_port s)) (subst (HasNo 58) (e ∙ socket_parts s) none)

pub socket_cut : (word before behind : List ℕ) (s : SocketAddrV4) → IsSocketAddrV4 s → word ≡ socket_v4_text s → word ≡ before ++ 58 ∷ behind → HasNo 58 before
    → (before ≡ ip_of s) × (behind ≡ decimal (v4_port s))
socket_cut word before behind s fits e cut none =
    one_split 58 before (ip_of s) behind (decimal (v4_port s)) none (no_mark_ip 58 s (inr (omega arith)) fits) (sym cut ∙ e ∙ socket_parts s)

pub ip_is : (text : List ℕ) (s : SocketAddrV4) → IsSocketAddrV4 s → text ≡ ip_of s → IsIpv4Text text (v4_ip s)
ip_is text s fits e = subst (λ (t : List ℕ). IsDotted t (ipv4_octets (v4_ip s))) (sym e) (IsDotted-ipv4_text (ipv4_octets (v4_ip s)) fits.0.0 fits.0.1)

pub same_socket : (s t : SocketAddrV4) → v4_ip s ≡ v4_ip t → v4_port s ≡ v4_port t → s ≡ t
same_socket s t p q = λ i. record { ip = p i; port = q i }

-- ---- a line that is split at its spaces
pub words_have : (line : List ℕ) (a : Listener) → line ≡ listener_words a → HasNo 32 line → ⊥
words_have line a e none = has_it 32 (decimal a.partition) (behind_first a) (subst (HasNo 32) (e ∙ words_parts a) none)

pub first_cut : (p : ℕ) (line first rest : List ℕ) (a : Listener) → p < 2 ^ 64 → Fits p a → line ≡ listener_words a → line ≡ first ++ 32 ∷ rest → HasNo 32 first
    → (first ≡ decimal a.partition) × (rest ≡ behind_first a)
first_cut p line first rest a small fits e cut none =
    let within = fits.partition in
    one_split 32 first (decimal a.partition) rest (behind_first a) none (no_mark 32 a.partition (inl (omega arith)) (omega arith)) (sym cut ∙ e ∙ words_parts a)

pub second_has : (rest : List ℕ) (a : Listener) → rest ≡ behind_first a → HasNo 32 rest → ⊥
second_has rest a e none = has_it 32 (decimal a.replica) (socket_v4_text a.address) (subst (HasNo 32) e none)

pub second_cut : (p : ℕ) (rest second third : List ℕ) (a : Listener) → Fits p a → rest ≡ behind_first a → rest ≡ second ++ 32 ∷ third → HasNo 32 second
    → (second ≡ decimal a.replica) × (third ≡ socket_v4_text a.address)
second_cut p rest second third a fits e cut none =
    let within = fits.replica in
    one_split 32 second (decimal a.replica) third (socket_v4_text a.address) none (no_mark 32 a.replica (inl (omega arith)) (omega arith)) (sym cut ∙ e)

-- a line that is split at both, and what its numbers are then
pub both_cut : (p : ℕ) (line first rest second third : List ℕ) (a : Listener) → p < 2 ^ 64 → Fits p a → line ≡ listener_words a → (line ≡ first ++ 32 ∷ rest) × HasNo 32 first → (rest ≡ second ++ 32 ∷ third) × HasNo 32 second
    → (first ≡ decimal a.partition) × (second ≡ decimal a.replica) × (third ≡ socket_v4_text a.address)
both_cut p line first rest second third a small fits e one two =
    let head = first_cut p line first rest a small fits e one.0 one.1 in
    let tail = second_cut p rest second third a fits head.1 two.0 two.1 in
    (head.0, tail.0, tail.1)

pub same_numbers : (p : ℕ) (first second : List ℕ) (partition replica : ℕ) (a : Listener) → p < 2 ^ 64 → Fits p a → first ≡ decimal a.partition → second ≡ decimal a.replica
    → ((n : ℕ) → n < 2 ^ 64 → first ≡ decimal n → Some partition ≡ Some n) → ((n : ℕ) → n < 2 ^ 64 → second ≡ decimal n → Some replica ≡ Some n) → (partition ≡ a.partition) × (replica ≡ a.replica)
same_numbers p first second partition replica a small fits head tail one two =
    let within = fits.partition in
    let also = fits.replica in
    let partition_only = one a.partition (omega arith) head in
    let replica_only = two a.replica (omega arith) tail in
    (cc, cc)

pub same_listener : (a b : Listener) → a.partition ≡ b.partition → a.replica ≡ b.replica → a.address ≡ b.address → a ≡ b
same_listener a b p q r = λ i. record { partition = p i; replica = q i; address = r i }

-- ---- words say one listener
same_socket_text : (s t : SocketAddrV4) → IsSocketAddrV4 s → IsSocketAddrV4 t → socket_v4_text s ≡ socket_v4_text t → s ≡ t
same_socket_text s t fits also e =
    let cut = socket_cut (socket_v4_text s) (ip_of s) (decimal (v4_port s)) t also e (socket_parts s) (no_mark_ip 58 s (inr (omega arith)) fits) in
    let few = fits.1 in
    let too = also.1 in
    same_socket s t (IsIpv4Text_unique (ip_of s) (v4_ip s) (v4_ip t) (ip_is (ip_of s) s fits (λ _. ip_of s)) (ip_is (ip_of s) t also cut.0))
    (decimal_injective (v4_port s) (v4_port t) (omega arith) (omega arith) cut.1)

pub same_words : (p : ℕ) (a b : Listener) → p < 2 ^ 64 → Fits p a → Fits p b → listener_words a ≡ listener_words b → a ≡ b
same_words p a b small fits also e =
    let here = fits.partition in
    let there = also.partition in
    let one = fits.replica in
    let other = also.replica in
    let first = first_cut p (listener_words a) (decimal a.partition) (behind_first a) b small also e (words_parts a) (no_mark 32 a.partition (inl (omega arith)) (omega arith)) in
    let second = second_cut p (behind_first a) (decimal a.replica) (socket_v4_text a.address) b also first.1 (λ _. behind_first a) (no_mark 32 a.replica (inl (omega arith)) (omega arith)) in
    same_listener a b (decimal_injective a.partition b.partition (omega arith) (omega arith) first.0) (decimal_injective a.replica b.replica (omega arith) (omega arith) second.0)
    (same_socket_text a.address b.address fits.address also.address second.1)

-- and have no line feed
pub no_line_feed : (p : ℕ) (a : Listener) → p < 2 ^ 64 → Fits p a → HasNo 10 (listener_words a)
no_line_feed p a small fits =
    let here = fits.partition in
    let one = fits.replica in
    let port = fits.address.1 in
    let mark : IsMark 10 = inl (omega arith) in
    let space : HasNo 10 (32 ∷ []) = grind arith in
    let colon : HasNo 10 (58 ∷ []) = grind arith in
    All-append (IsNot 10) (decimal a.partition ++ codes " " ++ decimal a.replica ++ codes " ") (socket_v4_text a.address)
    (All-append (IsNot 10) (decimal a.partition ++ codes " " ++ decimal a.replica) (codes " ")
    (All-append (IsNot 10) (decimal a.partition ++ codes " ") (decimal a.replica)
    (All-append (IsNot 10) (decimal a.partition) (codes " ") (no_mark 10 a.partition mark (omega arith)) space)
    (no_mark 10 a.replica mark (omega arith))) space)
    (All-append (IsNot 10) (ip_of a.address ++ codes ":") (decimal (v4_port a.address))
    (All-append (IsNot 10) (ip_of a.address) (codes ":") (no_mark_ip 10 a.address mark fits.address) colon)
    (no_mark 10 (v4_port a.address) mark (omega arith)))
