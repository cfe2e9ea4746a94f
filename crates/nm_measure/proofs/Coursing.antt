-- The ways of one source's packets, one step later.
use Rattle.std.proofs.Common.{append-nil, length, get_or, ltb, ltb-false, ltb-true, ◌≡◌, ◌≢◌, ℕ, zero, suc, ◌+◌, ◌<◌, ◌≤◌, ◌==◌, ◌&&◌, not, Bool, true, false, cond, List, [], ◌∷◌, ◌++◌, map, Some, slice_get, slice_set, refl, sym, ap, ◌∙◌, subst, arith, ⊎_elim, append_assoc}
use Rattle.std.specs.List.Sorted.{IsPartitionPoint}
use Rattle.std.specs.Prelude.{remove}
use Rattle.std.proofs.lemmas.Bool.{cases_lt}
use Rattle.std.proofs.lemmas.List.{map-append}
use Rattle.std.proofs.lemmas.Option.{get_or_from_slice_get, slice_get_within}
use Rattle.nm_model.proofs.ListLemmas.{not_some, number_apart, some_inj}
use Rattle.nm_model.specs.Lists.{keep_where}
use Rattle.nm_sim.specs.Network.{net_of}
use Rattle.nm_topology.specs.TopologyValue.{TopologyValue}
use Rattle.nm_measure.specs.declared.courses.End.{End}
use Rattle.nm_measure.specs.declared.courses.Ended.{Ended}
use Rattle.nm_measure.specs.declared.courses.Hop.{Hop}
use Rattle.nm_measure.specs.declared.tag.Tag.{Tag}
use Rattle.nm_measure.specs.Counted.{counts_for}
use Rattle.nm_measure.specs.CourseValue.{CourseValue}
use Rattle.nm_measure.specs.Rising.{AllAbove, Rise}
use Rattle.nm_measure.specs.Courses.{course_in, ended_in, hops_in, is_packet, own_ends}
use Rattle.nm_measure.specs.CoursesValue.{CoursesValue}
use Rattle.nm_measure.specs.Followed.{AreCourses, AreGone, begun, closed, over, gone_past, with_hop}
use Rattle.nm_measure.specs.Ways.{WayEnd, time_of}
use Rattle.nm_measure.proofs.Flowing.{keep_no, keep_yes}
use Rattle.nm_measure.proofs.Risings.{rise_apart}
use Rattle.nm_measure.proofs.Numbers.{never, own_none, own_one, packet_none, packet_number, packet_other, packet_own, rise_kept, rise_pushed, times_few, times_gone, times_in, times_left, times_push}

abbrev pub numbers_of : List CourseValue → List ℕ
numbers_of xs = map (λ x. x.number) xs

above_at : (k : ℕ) (xs : List CourseValue) (i : ℕ) (x : CourseValue) → AllAbove k (numbers_of xs) → slice_get xs i ≡ Some x → k < x.number
above_at k [] i x h e = absurd (not_some x e)
above_at k (y ∷ xs) zero x h e = subst (λ (z : CourseValue). k < z.number) (some_inj y x e) h.0
above_at k (y ∷ xs) (suc i) x h e = above_at k xs i x h.1 e

-- the one with a tag's number, and the others
module _ (j : ℕ) (tag : Tag) where
  abbrev is : CourseValue → Bool
  is x = is_packet j x.number tag

  abbrev NoneIs : List CourseValue → Type 0
  NoneIs xs = (i : ℕ) (x : CourseValue) → slice_get xs i ≡ Some x → is_packet j x.number tag ≡ false

  none_above : (k : ℕ) (xs : List CourseValue) → is_packet j k tag ≡ true → AllAbove k (numbers_of xs) → NoneIs xs
  none_above k xs same h i x at = packet_other j tag k x.number same (λ e. let up = above_at k xs i x h at in omega (arith, e, up))

  -- those before it are others
  below_is : (y : CourseValue) (xs : List CourseValue) (p : ℕ) (x : CourseValue) → AllAbove y.number (numbers_of xs) → slice_get xs p ≡ Some x → is_packet j x.number tag ≡ true → is_packet j y.number tag ≡ false
  below_is y xs p x h at same = packet_other j tag x.number y.number same (λ e. let up = above_at y.number xs p x h at in omega (arith, e, up))

  pub hop_none : (hop : Hop) (xs : List CourseValue) → NoneIs xs → map (with_hop j tag hop) xs ≡ xs
  hop_none hop [] none = refl
  hop_none hop (x ∷ xs) none =
      (λ i. cond (none 0 x refl i) (record { number = x.number; sent = x.sent; hops = x.hops ++ hop ∷ [] }) x ∷ hop_none hop xs (λ k y at. none (suc k) y at) i)

  pub hop_some : (hop : Hop) (xs : List CourseValue) (p : ℕ) (x y : CourseValue) → Rise (numbers_of xs) → slice_get xs p ≡ Some x → is_packet j x.number tag ≡ true
      → y ≡ record { number = x.number; sent = x.sent; hops = x.hops ++ hop ∷ [] } → map (with_hop j tag hop) xs ≡ slice_set xs p y
  hop_some hop [] p x y rise at same more = absurd (not_some x at)
  hop_some hop (z ∷ xs) zero x y rise at same more =
      let e : x ≡ z = sym (some_inj z x at) in
      let here : is_packet j z.number tag ≡ true = ap (λ (w : CourseValue). is_packet j w.number tag) (sym e) ∙ same in
      (λ i. cond (here i) (record { number = z.number; sent = z.sent; hops = z.hops ++ hop ∷ [] }) z ∷ hop_none hop xs (none_above z.number xs here rise.0) i)
      ∙ ap (λ w. w ∷ xs) ((λ i. record { number = (sym e i).number; sent = (sym e i).sent; hops = (sym e i).hops ++ hop ∷ [] }) ∙ sym more)
  hop_some hop (z ∷ xs) (suc p) x y rise at same more =
      (λ i. cond (below_is z xs p x rise.0 at same i) (record { number = z.number; sent = z.sent; hops = z.hops ++ hop ∷ [] }) z ∷ hop_some hop xs p x y rise.1 at same more i)

  abbrev left : List CourseValue → List CourseValue
  left xs = keep_where (λ x. not (is_packet j x.number tag)) xs

  abbrev gone : List CourseValue → List CourseValue
  gone xs = keep_where (λ x. is_packet j x.number tag) xs

  pub left_none : (xs : List CourseValue) → NoneIs xs → left xs ≡ xs
  left_none [] none = refl
  left_none (x ∷ xs) none = (λ i. cond (not (none 0 x refl i)) (x ∷ left xs) (left xs)) ∙ ap (λ l. x ∷ l) (left_none xs (λ k y at. none (suc k) y at))

  pub gone_none : (xs : List CourseValue) → NoneIs xs → gone xs ≡ []
  gone_none [] none = refl
  gone_none (x ∷ xs) none = (λ i. cond (none 0 x refl i) (x ∷ gone xs) (gone xs)) ∙ gone_none xs (λ k y at. none (suc k) y at)

  pub left_some : (xs : List CourseValue) (p : ℕ) (x : CourseValue) → Rise (numbers_of xs) → slice_get xs p ≡ Some x → is_packet j x.number tag ≡ true → left xs ≡ remove xs p
  left_some [] p x rise at same = absurd (not_some x at)
  left_some (z ∷ xs) zero x rise at same =
      let here : is_packet j z.number tag ≡ true = ap (λ (w : CourseValue). is_packet j w.number tag) (some_inj z x at) ∙ same in
      (λ i. cond (not (here i)) (z ∷ left xs) (left xs)) ∙ left_none xs (none_above z.number xs here rise.0)
  left_some (z ∷ xs) (suc p) x rise at same =
      (λ i. cond (not (below_is z xs p x rise.0 at same i)) (z ∷ left xs) (left xs)) ∙ ap (λ l. z ∷ l) (left_some xs p x rise.1 at same)

  pub gone_some : (xs : List CourseValue) (p : ℕ) (x : CourseValue) → Rise (numbers_of xs) → slice_get xs p ≡ Some x → is_packet j x.number tag ≡ true → gone xs ≡ x ∷ []
  gone_some [] p x rise at same = absurd (not_some x at)
  gone_some (z ∷ xs) zero x rise at same =
      let here : is_packet j z.number tag ≡ true = ap (λ (w : CourseValue). is_packet j w.number tag) (some_inj z x at) ∙ same in
      (λ i. cond (here i) (z ∷ gone xs) (gone xs)) ∙ (λ i. some_inj z x at i ∷ gone_none xs (none_above z.number xs here rise.0) i)
  gone_some (z ∷ xs) (suc p) x rise at same =
      (λ i. cond (below_is z xs p x rise.0 at same i) (z ∷ gone xs) (gone xs)) ∙ gone_some xs p x rise.1 at same

-- what is gone stays so
gone_as : (tags new : ℕ → ℕ) (made later : ℕ) → ((k : ℕ) → tags k ≡ 0 → k < made → (new k ≡ 0) × (k < later)) → (ends : List WayEnd) → AreGone tags made ends → AreGone new later ends
gone_as tags new made later same [] gone = tt
gone_as tags new made later same (e ∷ ends) gone = let z = same e.tag.number gone.0 gone.1 in (z.0, z.1, gone_as tags new made later same ends gone.2)

gone_push : (tags : ℕ → ℕ) (made : ℕ) (ends : List WayEnd) (e : WayEnd) → tags e.tag.number ≡ 0 → e.tag.number < made → AreGone tags made ends → AreGone tags made (ends ++ e ∷ [])
gone_push tags made [] e none low gone = (none, low, tt)
gone_push tags made (x ∷ ends) e none low gone = (gone.0, gone.1, gone_push tags made ends e none low gone.2)

-- how, why, where and when a way ends
abbrev pub end_of : WayEnd → End
end_of e = record { outcome = e.outcome; reason = e.reason; place = e.place; time = e.time }

module _ (t : TopologyValue) (passes : List (Tag × Hop)) (made : ℕ) (taken : List Ended) (ends : List WayEnd) (c : CoursesValue) where
  abbrev j : ℕ
  j = c.source

  abbrev courses : List ℕ → List CourseValue
  courses ks = map (course_in t c.source passes) ks

  -- by so many tags, said otherwise
  pub courses_as : (tags new : ℕ → ℕ) → ((k : ℕ) → tags k ≡ new k) → AreCourses t passes tags made taken ends c → AreCourses t passes new made taken ends c
  courses_as tags new same was = record {
    numbers = was.numbers;
    under_way = was.under_way;
    rise = was.rise;
    each = λ k. was.each k ∙ same k;
    few = λ k past. sym (same k) ∙ was.few k past;
    fresh = was.fresh;
    ended = was.ended;
    gone = gone_as tags new made made (λ k none low. (sym (same k) ∙ none, low)) ends was.gone;
  }

  numbers_are : (ks : List ℕ) → numbers_of (courses ks) ≡ ks
  numbers_are [] = refl
  numbers_are (k ∷ ks) = ap (λ l. k ∷ l) (numbers_are ks)

  pub courses_rise : (tags : ℕ → ℕ) → AreCourses t passes tags made taken ends c → Rise (numbers_of c.under_way)
  courses_rise tags was = subst Rise (sym (ap numbers_of was.under_way ∙ numbers_are was.numbers)) was.rise

  module _ (tag : Tag) (hop : Hop) where
    abbrev later : List (Tag × Hop)
    later = passes ++ (tag, hop) ∷ []

    hops_more : (k : ℕ) → is_packet c.source k tag ≡ true → hops_in c.source k later ≡ hops_in c.source k passes ++ hop ∷ []
    hops_more k is = ap (map (λ (p : Tag × Hop). p.1)) (keep_yes (λ (p : Tag × Hop). is_packet c.source k p.0) passes (tag, hop) is)
        ∙ map-append (λ (p : Tag × Hop). p.1) (keep_where (λ (p : Tag × Hop). is_packet c.source k p.0) passes) ((tag, hop) ∷ [])

    pub hops_same : (k : ℕ) → is_packet c.source k tag ≡ false → hops_in c.source k later ≡ hops_in c.source k passes
    hops_same k is = ap (map (λ (p : Tag × Hop). p.1)) (keep_no (λ (p : Tag × Hop). is_packet c.source k p.0) passes (tag, hop) is)

    abbrev as_hops : ℕ → List Hop → CourseValue
    as_hops k hops = record { number = k; sent = time_of ((net_of t).source c.source k); hops = hops }

    course_more : (k : ℕ) → with_hop c.source tag hop (course_in t c.source passes k) ≡ course_in t c.source later k
    course_more k = go (is_packet c.source k tag) refl
      where
        go : (b : Bool) → is_packet c.source k tag ≡ b → cond (is_packet c.source k tag) (as_hops k (hops_in c.source k passes ++ hop ∷ [])) (as_hops k (hops_in c.source k passes)) ≡ as_hops k (hops_in c.source k later)
        go true e = ap (λ b. cond b (as_hops k (hops_in c.source k passes ++ hop ∷ [])) (as_hops k (hops_in c.source k passes))) e ∙ ap (as_hops k) (sym (hops_more k e))
        go false e = ap (λ b. cond b (as_hops k (hops_in c.source k passes ++ hop ∷ [])) (as_hops k (hops_in c.source k passes))) e ∙ ap (as_hops k) (sym (hops_same k e))

    courses_more : (ks : List ℕ) → map (with_hop c.source tag hop) (courses ks) ≡ map (course_in t c.source later) ks
    courses_more [] = refl
    courses_more (k ∷ ks) = (λ i. course_more k i ∷ courses_more ks i)

    -- a packet that is gone does not pass
    ended_more : (e : WayEnd) → is_packet c.source e.tag.number tag ≡ false → ended_in t c.source passes e ≡ ended_in t c.source later e
    ended_more e other = (λ i. record { course = as_hops e.tag.number (sym (hops_same e.tag.number other) i); end = end_of e })

    ends_more : (tags : ℕ → ℕ) → ((k : ℕ) → is_packet c.source k tag ≡ true → 1 ≤ tags k) → (es : List WayEnd) → AreGone tags made es → map (ended_in t c.source passes) es ≡ map (ended_in t c.source later) es
    ends_more tags held [] gone = refl
    ends_more tags held (e ∷ es) gone = (λ i. ended_more e (other (is_packet c.source e.tag.number tag) refl) i ∷ ends_more tags held es gone.2 i)
      where
        other : (b : Bool) → is_packet c.source e.tag.number tag ≡ b → is_packet c.source e.tag.number tag ≡ false
        other true is = absurd (let some = held e.tag.number is in let none = gone.0 in omega (arith, some, none))
        other false is = is

    -- a packet that is in the network passes an interface
    pub courses_passed : (tags : ℕ → ℕ) → ((k : ℕ) → is_packet c.source k tag ≡ true → 1 ≤ tags k) → AreCourses t passes tags made taken ends c
        → AreCourses t later tags made taken ends (gone_past tag hop c)
    courses_passed tags held was = record {
      numbers = was.numbers;
      under_way = ap (map (with_hop c.source tag hop)) was.under_way ∙ courses_more was.numbers;
      rise = was.rise;
      each = was.each;
      few = was.few;
      fresh = λ k past. go k past (is_packet c.source k tag) refl;
      ended = was.ended ∙ ends_more tags held ends was.gone;
      gone = was.gone;
    }
      where
        go : (k : ℕ) → made ≤ k → (b : Bool) → is_packet c.source k tag ≡ b → hops_in c.source k later ≡ []
        go k past true e = absurd (let a = held k e in let b = was.few k past in omega (arith, a, b))
        go k past false e = hops_same k e ∙ was.fresh k past

  module _ (tag : Tag) where
    left_are : (ks : List ℕ) → keep_where (λ (x : CourseValue). not (is_packet c.source x.number tag)) (courses ks) ≡ courses (keep_where (λ k. not (is_packet c.source k tag)) ks)
    left_are [] = refl
    left_are (k ∷ ks) = go (not (is_packet c.source k tag)) (left_are ks)
      where
        go : (b : Bool) → keep_where (λ (x : CourseValue). not (is_packet c.source x.number tag)) (courses ks) ≡ courses (keep_where (λ k. not (is_packet c.source k tag)) ks) → cond b (course_in t c.source passes k ∷ keep_where (λ (x : CourseValue). not (is_packet c.source x.number tag)) (courses ks)) (keep_where (λ (x : CourseValue). not (is_packet c.source x.number tag)) (courses ks))
            ≡ courses (cond b (k ∷ keep_where (λ k. not (is_packet c.source k tag)) ks) (keep_where (λ k. not (is_packet c.source k tag)) ks))
        go true rest = ap (λ l. course_in t c.source passes k ∷ l) rest
        go false rest = rest

    gone_are : (ks : List ℕ) → keep_where (λ (x : CourseValue). is_packet c.source x.number tag) (courses ks) ≡ courses (keep_where (λ k. is_packet c.source k tag) ks)
    gone_are [] = refl
    gone_are (k ∷ ks) = go (is_packet c.source k tag) (gone_are ks)
      where
        go : (b : Bool) → keep_where (λ (x : CourseValue). is_packet c.source x.number tag) (courses ks) ≡ courses (keep_where (λ k. is_packet c.source k tag) ks) → cond b (course_in t c.source passes k ∷ keep_where (λ (x : CourseValue). is_packet c.source x.number tag) (courses ks)) (keep_where (λ (x : CourseValue). is_packet c.source x.number tag) (courses ks))
            ≡ courses (cond b (k ∷ keep_where (λ k. is_packet c.source k tag) ks) (keep_where (λ k. is_packet c.source k tag) ks))
        go true rest = ap (λ l. course_in t c.source passes k ∷ l) rest
        go false rest = rest

  -- a way ends
  module _ (e : WayEnd) where
    abbrev own_end : List WayEnd
    own_end = own_ends c.source (e ∷ [])

    pub courses_over : (tags left : ℕ → ℕ) → ((k : ℕ) → tags k ≡ cond (is_packet c.source k e.tag) 1 0 + left k) → AreCourses t passes tags made taken ends c
        → AreCourses t passes left made taken (ends ++ own_ends c.source (e ∷ [])) (over e.tag (end_of e) c)
    courses_over tags rest split was = record {
      numbers = keep_where (λ k. not (is_packet c.source k e.tag)) was.numbers;
      under_way = ap (keep_where (λ (x : CourseValue). not (is_packet c.source x.number e.tag))) was.under_way ∙ left_are e.tag was.numbers;
      rise = rise_kept (λ k. not (is_packet c.source k e.tag)) was.numbers was.rise;
      each = λ k. counted k (is_packet c.source k e.tag) refl;
      few = λ k past. let a = was.few k past in let b = split k in omega (arith, a, b);
      fresh = was.fresh;
      ended = sym (append_assoc taken c.ended (map (closed (end_of e)) (keep_where (λ (x : CourseValue). is_packet c.source x.number e.tag) c.under_way))) ∙ (λ i. was.ended i ++ closes i)
          ∙ sym (map-append (ended_in t c.source passes) ends own_end);
      gone = gone_more (counts_for c.source e.tag) refl;
    }
      where
        counted : (k : ℕ) (b : Bool) → is_packet c.source k e.tag ≡ b → times_in k (keep_where (λ k. not (is_packet c.source k e.tag)) was.numbers) ≡ rest k
        counted k true is =
            let one : ◌≡◌ {A = ℕ} (cond (is_packet c.source k e.tag) 1 0) 1 = ap (λ b. cond b 1 0) is in
            let a = was.each k in
            let b = split k in
            let few = times_few k was.numbers was.rise in
            let gone = times_gone c.source e.tag k was.numbers is in
            omega (arith, one, a, b, few, gone)
        counted k false is =
            let none : ◌≡◌ {A = ℕ} (cond (is_packet c.source k e.tag) 1 0) 0 = ap (λ b. cond b 1 0) is in
            let a = was.each k in
            let b = split k in
            let same = times_left c.source e.tag k was.numbers is in
            omega (arith, none, a, b, same)

        found : (b : Bool) → counts_for c.source e.tag ≡ b → map (closed (end_of e)) (courses (keep_where (λ k. is_packet c.source k e.tag) was.numbers)) ≡ map (ended_in t c.source passes) own_end
        found true is =
            let one : ◌≡◌ {A = ℕ} (cond (is_packet c.source e.tag.number e.tag) 1 0) 1 = ap (λ b. cond b 1 0) (packet_own c.source e.tag is) in
            let a = was.each e.tag.number in
            let b = split e.tag.number in
            ap (λ l. map (closed (end_of e)) (courses l)) (own_one c.source e.tag is was.numbers was.rise (omega (arith, one, a, b)))
            ∙ sym (ap (λ b. map (ended_in t c.source passes) (cond b (e ∷ []) [])) is)
        found false is =
            ap (λ l. map (closed (end_of e)) (courses l)) (own_none c.source e.tag is was.numbers)
            ∙ sym (ap (λ b. map (ended_in t c.source passes) (cond b (e ∷ []) [])) is)

        closes : map (closed (end_of e)) (keep_where (λ (x : CourseValue). is_packet c.source x.number e.tag) c.under_way) ≡ map (ended_in t c.source passes) own_end
        closes = ap (λ l. map (closed (end_of e)) (keep_where (λ (x : CourseValue). is_packet c.source x.number e.tag) l)) was.under_way
            ∙ ap (map (closed (end_of e))) (gone_are e.tag was.numbers) ∙ found (counts_for c.source e.tag) refl

        still_gone : AreGone rest made ends
        still_gone = gone_as tags rest made made (λ k none low. (let b = split k in omega (arith, none, b), low)) ends was.gone

        gone_more : (b : Bool) → counts_for c.source e.tag ≡ b → AreGone rest made (ends ++ cond (counts_for c.source e.tag) (e ∷ []) [])
        gone_more true is =
            let itself = packet_own c.source e.tag is in
            let one : ◌≡◌ {A = ℕ} (cond (is_packet c.source e.tag.number e.tag) 1 0) 1 = ap (λ b. cond b 1 0) itself in
            let a = was.each e.tag.number in
            let b = split e.tag.number in
            let few = times_few e.tag.number was.numbers was.rise in
            subst (λ b. AreGone rest made (ends ++ cond b (e ∷ []) [])) (sym is)
            (gone_push rest made ends e (omega (arith, one, a, b, few)) (⊎_elim (λ low. low) (λ past. absurd (let none = was.few e.tag.number past in omega (arith, none, one, b))) (cases_lt e.tag.number made)) still_gone)
        gone_more false is = subst (λ b. AreGone rest made (ends ++ cond b (e ∷ []) [])) (sym is) (subst (AreGone rest made) (sym (append-nil ends)) still_gone)

  -- a source makes a packet
  module _ (tag : Tag) (tags new : ℕ → ℕ) (more : (k : ℕ) → new k ≡ cond (is_packet c.source k tag) 1 0 + tags k) (was : AreCourses t passes tags made taken ends c) where
    pub courses_begun : counts_for c.source tag ≡ true → tag.number ≡ made → tag.at ≡ time_of ((net_of t).source c.source made)
        → AreCourses t passes new (made + 1) taken ends (begun tag c)
    courses_begun own number at = record {
      numbers = was.numbers ++ tag.number ∷ [];
      under_way = ap (λ b. cond b (c.under_way ++ record { number = tag.number; sent = tag.at; hops = [] } ∷ []) c.under_way) own
          ∙ (λ i. was.under_way i ++ made_is i ∷ [])
          ∙ sym (map-append (course_in t c.source passes) was.numbers (tag.number ∷ []));
      rise = rise_pushed tag.number was.numbers was.rise (λ k past. was.each k ∙ was.few k (omega (arith, past, number)));
      each = λ k. each_is k (is_packet c.source k tag) refl;
      few = λ k past. none_is k past (is_packet c.source k tag) refl;
      fresh = λ k past. was.fresh k (omega (arith, past));
      ended = was.ended;
      gone = gone_as tags new made (made + 1) (λ k none low. (others k none low, omega (arith, low))) ends was.gone;
    }
      where
        made_is : (record { number = tag.number; sent = tag.at; hops = [] }) ≡ course_in t c.source passes tag.number
        made_is = (λ i. record { number = tag.number; sent = (at ∙ ap (λ k. time_of ((net_of t).source c.source k)) (sym number)) i; hops = sym (was.fresh tag.number (omega (arith, number))) i })

        each_is : (k : ℕ) (b : Bool) → is_packet c.source k tag ≡ b → times_in k (was.numbers ++ tag.number ∷ []) ≡ new k
        each_is k b e =
            let a = was.each k in
            let m = more k in
            let p = times_push k tag.number was.numbers in
            let same : ◌≡◌ {A = ℕ} (cond (is_packet c.source k tag) 1 0) (cond (tag.number == k) 1 0) = ap (λ b. cond (b && (tag.number == k)) 1 0) own in
            omega (arith, a, m, p, same)

        others : (k : ℕ) → tags k ≡ 0 → k < made → new k ≡ 0
        others k none low =
            let m = more k in
            let zero : ◌≡◌ {A = ℕ} (cond (is_packet c.source k tag) 1 0) 0 = ap (λ b. cond b 1 0) (packet_other c.source tag tag.number k (packet_own c.source tag own) (λ e. omega (arith, e, number, low))) in
            omega (arith, m, none, zero)

        none_is : (k : ℕ) → made + 1 ≤ k → (b : Bool) → is_packet c.source k tag ≡ b → new k ≡ 0
        none_is k past true e = absurd (let n = packet_number c.source tag k e in omega (arith, n, number, past))
        none_is k past false e =
            let none : ◌≡◌ {A = ℕ} (cond (is_packet c.source k tag) 1 0) 0 = ap (λ b. cond b 1 0) e in
            let m = more k in
            let f = was.few k (omega (arith, past)) in
            omega (arith, none, m, f)

    -- or another does
    pub courses_kept : counts_for c.source tag ≡ false → AreCourses t passes new made taken ends (begun tag c)
    courses_kept other = record {
      numbers = was.numbers;
      under_way = ap (λ b. cond b (c.under_way ++ record { number = tag.number; sent = tag.at; hops = [] } ∷ []) c.under_way) other ∙ was.under_way;
      rise = was.rise;
      each = λ k. let a = was.each k in let m = more k in let none : ◌≡◌ {A = ℕ} (cond (is_packet c.source k tag) 1 0) 0 = ap (λ b. cond b 1 0) (packet_none c.source tag other k) in omega (arith, a, m, none);
      few = λ k past. let f = was.few k past in let m = more k in let none : ◌≡◌ {A = ℕ} (cond (is_packet c.source k tag) 1 0) 0 = ap (λ b. cond b 1 0) (packet_none c.source tag other k) in omega (arith, f, m, none);
      fresh = was.fresh;
      ended = was.ended;
      gone = gone_as tags new made made (λ k none low. (let m = more k in let zero : ◌≡◌ {A = ℕ} (cond (is_packet c.source k tag) 1 0) 0 = ap (λ b. cond b 1 0) (packet_none c.source tag other k) in omega (arith, m, none, zero), low)) ends was.gone;
    }

-- no course has a number, if none at the place has it before which all have a lesser one
pub found_none : (j : ℕ) (tag : Tag) (xs : List CourseValue) (p : ℕ)
    → IsPartitionPoint (λ (x : CourseValue). ltb x.number tag.number ≡ true) (λ (x : CourseValue). ltb x.number tag.number ≡ false) xs p
    → ((x : CourseValue) → slice_get xs p ≡ Some x → x.number ≢ tag.number) → Rise (numbers_of xs) → NoneIs j tag xs
found_none j tag xs p point other rise i x at = other_number (λ e. ⊎_elim
    (λ low. let l = ltb-true (get_or xs i x).number tag.number (point.0 i x (omega arith) low) in let s = same in omega (arith, l, s, e))
    (λ past. by_place past e)
    (cases_lt i p))
  where
    within : i < length xs
    within = slice_get_within xs i x at

    same : (get_or xs i x).number ≡ x.number
    same = ap (λ (z : CourseValue). z.number) (get_or_from_slice_get xs i x x at)

    by_place : p ≤ i → x.number ≡ tag.number → ⊥
    by_place past e = ⊎_elim
        (λ (before : p < i).
        let there : p < length xs = omega (arith, before, within) in
        let least = ltb-false (get_or xs p x).number tag.number (point.1 p x (omega arith) there) in
        let up = rise_apart (λ (z : CourseValue). z.number) xs p i x before within rise in
        let s = same in
        omega (arith, least, up, s, e))
        (λ (behind : i ≤ p). other x (subst (λ k. slice_get xs k ≡ Some x) (omega (arith, past, behind)) at) e)
        (cases_lt p i)

    other_number : (x.number ≡ tag.number → ⊥) → is_packet j x.number tag ≡ false
    other_number apart = ap (λ b. counts_for j tag && b) (number_apart tag.number x.number (λ e. apart (sym e))) ∙ never (counts_for j tag)
