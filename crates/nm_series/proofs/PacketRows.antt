-- One row of packets more.
use Rattle.std.proofs.Common.{◌≡◌, ℕ, zero, suc, ◌+◌, ◌<◌, List, [], ◌∷◌, ◌++◌, map, take, length, count_by, ◌==◌, get_or, Option, Some, None, codes, refl, sym, ap, ◌∙◌, subst, arith, append_assoc, append-nil}
use Rattle.nm_model.proofs.ListLemmas.{not_some, some_inj}
use Rattle.nm_model.specs.Before.{IsBefore}
use Rattle.nm_sim.specs.Network.{net_of}
use Rattle.nm_topology.specs.TopologyValue.{TopologyValue}
use Rattle.nm_measure.specs.CourseValue.{CourseValue}
use Rattle.nm_measure.specs.CoursesValue.{CoursesValue}
use Rattle.nm_measure.specs.Courses.{course_in, is_packet, passes_in, tags_in, ways_in}
use Rattle.nm_measure.specs.Followed.{IsFollowed, TakesEnded, TakesOpen}
use Rattle.nm_measure.specs.Lanes.{lanes_in}
use Rattle.nm_measure.specs.Ways.{tagged_list}
use Rattle.nm_measure.specs.declared.courses.Ended.{Ended}
use Rattle.nm_measure.specs.declared.courses.Hop.{Hop}
use Rattle.nm_series.specs.Packets.{ArePacketRows, HasAllRows, HasRows, ended_row, ended_rows, further_words, hop_words, packet_columns, under_way_row, under_way_rows}

abbrev times_in : ℕ → List ℕ → ℕ
times_in k ks = count_by (λ m. m == k) ks

-- what is left of them
left_is : (c d : CoursesValue) → d.source ≡ c.source → d.under_way ≡ c.under_way → (record { source = c.source; under_way = c.under_way; ended = d.ended }) ≡ d
left_is c d source under_way = (λ i. record { source = sym source i; under_way = sym under_way i; ended = d.ended })

module _ (t : TopologyValue) where
  regrouped : (a f c g : List ℕ) → a ++ ((f ++ c) ++ g) ≡ ((a ++ f) ++ c) ++ g
  regrouped a f c g = simp append_assoc

  further_more : (hops : List Hop) (n : ℕ) (d : Hop) → n < length hops → further_words t (take (n + 1) hops) ≡ (further_words t (take n hops) ++ codes " ") ++ hop_words t (get_or hops n d)
  further_more [] n d low = absurd (omega (arith, low))
  further_more (h ∷ hops) zero d low = append-nil (codes " " ++ hop_words t h)
  further_more (h ∷ hops) (suc n) d low =
      let e : suc n + 1 ≡ suc (n + 1) = omega arith in
      ap (λ k. further_words t (take k (h ∷ hops))) e
      ∙ ap (λ l. (codes " " ++ hop_words t h) ++ l) (further_more hops n d (omega (arith, low)))
      ∙ regrouped (codes " " ++ hop_words t h) (further_words t (take n hops)) (codes " ") (hop_words t (get_or hops n d))

  pub further_next : (hops : List Hop) (n : ℕ) (d : Hop) → n < length hops → (initial mid spaced new : List ℕ) → mid ≡ initial ++ further_words t (take n hops) → spaced ≡ mid ++ codes " "
      → new ≡ spaced ++ hop_words t (get_or hops n d) → new ≡ initial ++ further_words t (take (n + 1) hops)
  further_next hops n d low initial mid spaced new so_far space more =
      more ∙ ap (λ l. l ++ hop_words t (get_or hops n d)) (space ∙ ap (λ l. l ++ codes " ") so_far)
      ∙ sym (regrouped initial (further_words t (take n hops)) (codes " ") (hop_words t (get_or hops n d)))
      ∙ ap (λ l. initial ++ l) (sym (further_more hops n d low))

  rows_push : (ended : List Ended) (e : Ended) → ended_rows t (ended ++ e ∷ []) ≡ ended_rows t ended ++ ended_row t e
  rows_push [] e = append-nil (ended_row t e)
  rows_push (x ∷ ended) e = ap (λ l. ended_row t x ++ l) (rows_push ended e) ∙ sym (append_assoc (ended_row t x) (ended_rows t ended) (ended_row t e))

  -- the row of the one that is taken
  pub row_taken : (j n : ℕ) (initial mid new : List ℕ) (e : Ended) (o p : Option CoursesValue) → TakesEnded (Some e) o p → HasRows t j n initial mid o → new ≡ mid ++ ended_row t e → HasRows t j n initial new p
  row_taken j n initial mid new e None p takes has more = absurd (not_some e (sym takes.0))
  row_taken j n initial mid new e (Some c) p takes has more = (
    has.0 ++ e ∷ [],
    subst (IsFollowed t (Some j) n (has.0 ++ e ∷ [])) (ap Some (left_is c takes.0 takes.2 takes.3) ∙ sym takes.1) (
      has.1.0,
      record {
        numbers = has.1.1.numbers;
        under_way = has.1.1.under_way;
        rise = has.1.1.rise;
        each = has.1.1.each;
        few = has.1.1.few;
        fresh = has.1.1.fresh;
        gone = has.1.1.gone;
        ended = append_assoc has.0 (e ∷ []) takes.0.ended ∙ ap (λ l. has.0 ++ l) (sym takes.4) ∙ has.1.1.ended;
      },
    ),
    more ∙ ap (λ l. l ++ ended_row t e) has.2 ∙ append_assoc initial (ended_rows t has.0) (ended_row t e) ∙ ap (λ l. initial ++ l) (sym (rows_push has.0 e)),
  )

  -- none is left
  pub rows_all : (j n : ℕ) (initial text : List ℕ) (o p : Option CoursesValue) → TakesEnded None o p → HasRows t j n initial text o → HasAllRows t j n initial text p
  rows_all j n initial text None p takes has = absurd (not_some j has.1.0)
  rows_all j n initial text (Some c) p takes has = (
    subst (IsFollowed t (Some j) n (ways_in t j n)) (ap Some (left_is c takes.0 takes.2 takes.3) ∙ sym takes.1) (
      has.1.0,
      record {
        numbers = has.1.1.numbers;
        under_way = has.1.1.under_way;
        rise = has.1.1.rise;
        each = has.1.1.each;
        few = has.1.1.few;
        fresh = has.1.1.fresh;
        gone = has.1.1.gone;
        ended = ap (λ l. ways_in t j n ++ l) takes.4.1 ∙ append-nil (ways_in t j n) ∙ sym same;
      },
    ),
    has.2 ∙ ap (λ l. initial ++ ended_rows t l) (all ∙ same),
  )
    where
      same : ways_in t c.source n ≡ ways_in t j n
      same = ap (λ k. ways_in t k n) (some_inj c.source j has.1.0)

      all : has.0 ≡ ways_in t c.source n
      all = sym (append-nil has.0) ∙ ap (λ l. has.0 ++ l) (sym takes.4.0) ∙ has.1.1.ended

  -- the rows of those that are under way
  abbrev pub HasOpenRows : (initial text : List ℕ) → CoursesValue → Option CoursesValue → Type 0
  HasOpenRows initial text c o = (done : List CourseValue) × (d : CoursesValue) × (o ≡ Some d) × (c.under_way ≡ done ++ d.under_way) × (text ≡ initial ++ under_way_rows t done)

  open_push : (done : List CourseValue) (x : CourseValue) → under_way_rows t (done ++ x ∷ []) ≡ under_way_rows t done ++ under_way_row t x
  open_push [] x = append-nil (under_way_row t x)
  open_push (y ∷ done) x = ap (λ l. under_way_row t y ++ l) (open_push done x) ∙ sym (append_assoc (under_way_row t y) (under_way_rows t done) (under_way_row t x))

  pub open_taken : (initial mid new : List ℕ) (c : CoursesValue) (x : CourseValue) (o p : Option CoursesValue) → TakesOpen (Some x) o p → HasOpenRows initial mid c o → new ≡ mid ++ under_way_row t x → HasOpenRows initial new c p
  open_taken initial mid new c x o p takes has more =
      let z = subst (λ q. TakesOpen (Some x) q p) has.2 takes in (
        has.0 ++ x ∷ [],
        z.0,
        z.1,
        has.3 ∙ ap (λ l. has.0 ++ l) z.2 ∙ sym (append_assoc has.0 (x ∷ []) z.0.under_way),
        more ∙ ap (λ l. l ++ under_way_row t x) has.4 ∙ append_assoc initial (under_way_rows t has.0) (under_way_row t x) ∙ ap (λ l. initial ++ l) (sym (open_push has.0 x)),
      )

  pub open_all : (initial text : List ℕ) (c : CoursesValue) (o p : Option CoursesValue) → TakesOpen None o p → HasOpenRows initial text c o → text ≡ initial ++ under_way_rows t c.under_way
  open_all initial text c o p takes has =
      let z = subst (λ q. TakesOpen None q p) has.2 takes in
      has.4 ∙ ap (λ l. initial ++ under_way_rows t l) (sym (has.3 ∙ ap (λ l. has.0 ++ l) z.2.0 ∙ append-nil has.0))

  -- all rows
  pub rows_are : (j n : ℕ) (text new : List ℕ) (o : Option CoursesValue) → IsBefore (net_of t) t.stop n → HasAllRows t j n packet_columns text o → ((c : CoursesValue) → o ≡ Some c → new ≡ text ++ under_way_rows t c.under_way)
      → ArePacketRows t j new
  rows_are j n text new None over has more = absurd (not_some j has.0.0)
  rows_are j n text new (Some c) over has more = record {
    events = n;
    over = over;
    numbers = has.0.1.numbers;
    under_way = record { rise = has.0.1.rise; each = subst (λ i. (k : ℕ) → times_in k has.0.1.numbers ≡ tags_in (is_packet i k) (length t.ifaces) (lanes_in t (tagged_list t n))) source has.0.1.each };
    rows = more c refl
        ∙ (λ i. has.1 i ++ under_way_rows t ((has.0.1.under_way ∙ ap (λ k. map (course_in t k (passes_in t n)) has.0.1.numbers) source) i))
        ∙ append_assoc packet_columns (ended_rows t (ways_in t j n)) (under_way_rows t (map (course_in t j (passes_in t n)) has.0.1.numbers));
  }
    where
      source : c.source ≡ j
      source = some_inj c.source j has.0.0
