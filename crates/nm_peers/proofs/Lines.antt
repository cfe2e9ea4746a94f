-- How the lines of listeners are read, one after another.
use Rattle.std.proofs.Common.{◌≡◌, ℕ, ◌<◌, ◌^◌, true, false, List, [], ◌∷◌, ◌++◌, length, refl, ap, sym, subst, ◌∙◌, append_assoc}
use Rattle.std.specs.Bool.{◌==◌}
use Rattle.std.specs.List.{All, IsDistinct, flat_map, list_any}
use Rattle.std.proofs.lemmas.List.{append-nil}
use Rattle.std.proofs.lemmas.List.Elements.{All-head, All-nil, All-push, All-tail}
use Rattle.std.proofs.lemmas.Grind.{flat_map-append}
use Rattle.nm_base.specs.Text.{HasNo}
use Rattle.nm_peers.specs.declared.listener.Listener.{Listener}
use Rattle.nm_peers.specs.Listeners.{Fits, AreListeners, listener_line, listener_words, is_listener_of, is_same}
use Rattle.nm_peers.proofs.Apart.{apart_before, apart_more, apart_none}
use Rattle.nm_base.proofs.Splits.{has_it, not_empty, one_split}
use Rattle.nm_peers.proofs.Words.{no_line_feed, same_words}

-- a line and what follows it, at its line feed
pub line_parts : (a : Listener) (more : List ℕ) → listener_line a ++ more ≡ listener_words a ++ 10 ∷ more
line_parts a more = append_assoc (listener_words a) (10 ∷ []) more

-- listeners that begin a list, as their lines begin its text
pub one_front : (p : ℕ) (taken listeners : List Listener) (rest : List ℕ) → p < 2 ^ 64 → All (Fits p) taken → All (Fits p) listeners
    → flat_map listener_line taken ++ rest ≡ flat_map listener_line listeners
    → (more : List Listener) × (listeners ≡ taken ++ more) × (rest ≡ flat_map listener_line more)
one_front p [] listeners rest small fit also e = (listeners, refl, e)
one_front p (a ∷ taken) [] rest small fit also e =
    let parts = append_assoc (listener_line a) (flat_map listener_line taken) rest ∙ line_parts a (flat_map listener_line taken ++ rest) in
    absurd (not_empty (listener_words a) 10 (flat_map listener_line taken ++ rest) (sym parts ∙ e))
one_front p (a ∷ taken) (b ∷ listeners) rest small fit also e =
    let here = All-head (Fits p) a taken fit in
    let there = All-head (Fits p) b listeners also in
    let parts = append_assoc (listener_line a) (flat_map listener_line taken) rest ∙ line_parts a (flat_map listener_line taken ++ rest) in
    let cut = one_split 10 (listener_words a) (listener_words b) (flat_map listener_line taken ++ rest) (flat_map listener_line listeners) (no_line_feed p a small here) (no_line_feed p b small there)
    (sym parts ∙ e ∙ line_parts b (flat_map listener_line listeners)) in
    let same = same_words p a b small here there cut.0 in
    let more = one_front p taken listeners rest small (All-tail (Fits p) a taken fit) (All-tail (Fits p) b listeners also) cut.1 in
    (more.0, cc (same, more.1), more.2)

-- so a text is the lines of one list
pub one_list : (p : ℕ) (xs ys : List Listener) → p < 2 ^ 64 → All (Fits p) xs → All (Fits p) ys → flat_map listener_line xs ≡ flat_map listener_line ys → xs ≡ ys
one_list p xs ys small fit also e =
    let front = one_front p xs ys [] small fit also (append-nil (flat_map listener_line xs) ∙ e) in
    ends front.0 front.1 front.2
  where
    ends : (more : List Listener) → ys ≡ xs ++ more → [] ≡ flat_map listener_line more → xs ≡ ys
    ends [] same none = sym (append-nil xs) ∙ sym same
    ends (m ∷ more) same none = absurd (not_empty (listener_words m) 10 (flat_map listener_line more) (sym (line_parts m (flat_map listener_line more)) ∙ sym none))

-- ---- reading: some listeners are taken, and this rest is left
pub record IsReadTo (p : ℕ) (text rest : List ℕ) (taken : List Listener) : Type 0 where
  pub whole : text ≡ flat_map listener_line taken ++ rest
  pub fit : All (Fits p) taken
  pub apart : IsDistinct is_same taken

pub begins : (p : ℕ) (text : List ℕ) → IsReadTo p text text []
begins p text = record { whole = refl; fit = All-nil (Fits p); apart = apart_none }

-- what any list of listeners has behind those that are taken
pub left : (p partition replica : ℕ) (text rest : List ℕ) (taken listeners : List Listener) → p < 2 ^ 64 → IsReadTo p text rest taken → AreListeners text p partition replica listeners
    → (more : List Listener) × (listeners ≡ taken ++ more) × (rest ≡ flat_map listener_line more)
left p partition replica text rest taken listeners small read is = one_front p taken listeners rest small read.fit is.fit (sym read.whole ∙ is.whole)

-- what holds of all holds of those behind some
behind : (P : Listener → Type 0) (xs ys : List Listener) → All P (xs ++ ys) → All P ys
behind P [] ys h = h
behind P (x ∷ xs) ys h = behind P xs ys (All-tail P x (xs ++ ys) h)

-- the next line is that of the next listener
pub record IsNext (p : ℕ) (line : List ℕ) (taken listeners : List Listener) : Type 0 where
  pub listener : Listener
  pub more : List Listener
  pub parts : listeners ≡ taken ++ listener ∷ more
  pub fits : Fits p listener
  pub says : line ≡ listener_words listener

pub next : (p partition replica : ℕ) (text rest line after : List ℕ) (taken listeners : List Listener) → p < 2 ^ 64 → IsReadTo p text rest taken
    → rest ≡ line ++ 10 ∷ after → HasNo 10 line → AreListeners text p partition replica listeners → IsNext p line taken listeners
next p partition replica text rest line after taken listeners small read cut none is =
    let found = left p partition replica text rest taken listeners small read is in
    goes found.0 found.1 found.2
  where
    goes : (more : List Listener) → listeners ≡ taken ++ more → rest ≡ flat_map listener_line more → IsNext p line taken listeners
    goes [] same e = absurd (not_empty line 10 after (sym cut ∙ e))
    goes (m ∷ more) same e =
        let all = behind (Fits p) taken (m ∷ more) (subst (All (Fits p)) same is.fit) in
        let fits = All-head (Fits p) m more all in
        let one = one_split 10 line (listener_words m) after (flat_map listener_line more) none (no_line_feed p m small fits) (sym cut ∙ e ∙ line_parts m (flat_map listener_line more)) in
        record { listener = m; more = more; parts = same; fits = fits; says = one.0 }

-- no list goes on so
pub no_line : (p partition replica : ℕ) (text rest line after : List ℕ) (taken : List Listener) → p < 2 ^ 64 → IsReadTo p text rest taken
    → rest ≡ line ++ 10 ∷ after → HasNo 10 line → ((a : Listener) → Fits p a → line ≡ listener_words a → ⊥)
    → (listeners : List Listener) → AreListeners text p partition replica listeners → ⊥
no_line p partition replica text rest line after taken small read cut none not listeners is =
    let n = next p partition replica text rest line after taken listeners small read cut none is in not n.listener n.fits n.says

pub no_second : (p partition replica : ℕ) (text rest line after : List ℕ) (taken : List Listener) (a : Listener) → p < 2 ^ 64 → IsReadTo p text rest taken
    → rest ≡ line ++ 10 ∷ after → HasNo 10 line → line ≡ listener_words a → Fits p a → list_any (is_listener_of a.partition a.replica) taken ≡ true
    → (listeners : List Listener) → AreListeners text p partition replica listeners → ⊥
no_second p partition replica text rest line after taken a small read cut none says fits known listeners is =
    let n = next p partition replica text rest line after taken listeners small read cut none is in
    let same = same_words p n.listener a small n.fits fits (sym n.says ∙ says) in
    let apart = apart_before taken n.listener n.more (subst (IsDistinct is_same) n.parts is.apart) in
    let free : list_any (is_listener_of a.partition a.replica) taken ≡ false = subst (λ (b : Listener). list_any (is_listener_of b.partition b.replica) taken ≡ false) same apart in
    absurd (cc)

pub goes_on : (p : ℕ) (text rest line after : List ℕ) (taken new : List Listener) (a : Listener) → IsReadTo p text rest taken → rest ≡ line ++ 10 ∷ after
    → line ≡ listener_words a → Fits p a → list_any (is_listener_of a.partition a.replica) taken ≡ false → new ≡ taken ++ a ∷ [] → IsReadTo p text after new
goes_on p text rest line after taken new a read cut says fits free pushed =
    let ends : rest ≡ listener_line a ++ after = cut ∙ ap (λ (l : List ℕ). l ++ 10 ∷ after) says ∙ sym (line_parts a after) in
    let more : flat_map listener_line (taken ++ a ∷ []) ≡ flat_map listener_line taken ++ listener_line a =
    flat_map-append listener_line taken (a ∷ []) ∙ ap (λ (t : List ℕ). flat_map listener_line taken ++ t) (append-nil (listener_line a)) in
    subst (IsReadTo p text after) (sym pushed) (record {
      whole = read.whole ∙ ap (λ (t : List ℕ). flat_map listener_line taken ++ t) ends ∙ sym (append_assoc (flat_map listener_line taken) (listener_line a) after)
          ∙ ap (λ (t : List ℕ). t ++ after) (sym more);
      fit = All-push (Fits p) taken a read.fit fits;
      apart = apart_more taken a read.apart free;
    })

-- where no line is left, each list is what was taken
ends_so : (p partition replica : ℕ) (text rest : List ℕ) (taken listeners : List Listener) → p < 2 ^ 64 → IsReadTo p text rest taken → HasNo 10 rest
    → AreListeners text p partition replica listeners → (rest ≡ []) × (listeners ≡ taken)
ends_so p partition replica text rest taken listeners small read none is =
    let found = left p partition replica text rest taken listeners small read is in
    goes found.0 found.1 found.2
  where
    goes : (more : List Listener) → listeners ≡ taken ++ more → rest ≡ flat_map listener_line more → (rest ≡ []) × (listeners ≡ taken)
    goes [] same e = (e, same ∙ append-nil taken)
    goes (m ∷ more) same e = absurd (has_it 10 (listener_words m) (flat_map listener_line more) (subst (HasNo 10) (e ∙ line_parts m (flat_map listener_line more)) none))

pub no_rest : (p partition replica : ℕ) (text rest : List ℕ) (taken : List Listener) → p < 2 ^ 64 → IsReadTo p text rest taken → HasNo 10 rest → false ≡ (length rest == 0)
    → (listeners : List Listener) → AreListeners text p partition replica listeners → ⊥
no_rest p partition replica text rest taken small read none some listeners is =
    let empty = (ends_so p partition replica text rest taken listeners small read none is).0 in
    let not : false ≡ true = some ∙ ap (λ (r : List ℕ). length r == 0) empty in
    absurd (cc)

pub no_own : (p partition replica : ℕ) (text rest : List ℕ) (taken : List Listener) → p < 2 ^ 64 → IsReadTo p text rest taken → HasNo 10 rest
    → list_any (is_listener_of partition replica) taken ≡ false → (listeners : List Listener) → AreListeners text p partition replica listeners → ⊥
no_own p partition replica text rest taken small read none free listeners is =
    let same = (ends_so p partition replica text rest taken listeners small read none is).1 in
    let own : list_any (is_listener_of partition replica) taken ≡ true = subst (λ (l : List Listener). list_any (is_listener_of partition replica) l ≡ true) same is.own in
    absurd (cc)

pub ends : (p partition replica : ℕ) (text rest : List ℕ) (taken : List Listener) → IsReadTo p text rest taken → rest ≡ []
    → list_any (is_listener_of partition replica) taken ≡ true → AreListeners text p partition replica taken
ends p partition replica text rest taken read none own = record {
  whole = read.whole ∙ ap (λ (t : List ℕ). flat_map listener_line taken ++ t) none ∙ append-nil (flat_map listener_line taken);
  fit = read.fit;
  apart = read.apart;
  own = own;
}
