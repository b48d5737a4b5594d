-- Each step from line to line keeps what holds of a sweep.
use Rattle.std.proofs.Common.{◌≡◌, ◌+◌, ◌^◌, ◌<◌, ◌≤◌, Bool, true, false, List, [], ◌∷◌, ◌++◌, map, take, drop, length, get_or, inl, inr, refl, sym, subst, ap, ◌∙◌, arith, ℤ, pos, nat_abs, to_z, of_z, ◌+ℤ◌, int_le, int_lt, ◌≤ℤ◌, ◌<ℤ◌}
use mir.Syntax.{w32}
use Rattle.std.proofs.lemmas.Bool.{cases_Bool, and_left, and_right}
use Rattle.std.proofs.lemmas.Int.{ints}
use Rattle.std.proofs.lemmas.List.{get_or-drop, drop_all, drop_more, length-drop, get_or_default, take-append-drop}
use Rattle.std.proofs.lemmas.List.Elements.{All-more, All-tail, All-head, All-append, All-weaker, All-take, All-filter, All-get_or, All-nil, filter_more, filter_passes}
use Rattle.std.specs.List.{filter, list_any, All}
use Rattle.std.specs.Global.{Vec}
use Rattle.polygons.specs.declared.climb.Climb.{Climb}
use Rattle.polygons.specs.declared.sweep.Sweep.{Sweep}
use Rattle.polygons.specs.Fills.{line_distance, crosses}
use Rattle.polygons.specs.Climbs.{IsClimb, SameItems, nowhere}
use Rattle.polygons.specs.Sweeps.{IsSweep, IsReady, IsCut, these, left}
use Rattle.polygons.proofs.Tests.{le_false, lt_true, lt_false, lt_from, lt_not}
use Rattle.polygons.proofs.OnLines.{is_on, number_of, numbers_on, same_numbers, climbs_cross, active_on, filter_same, none_crosses, one_crosses, none_from_filter, filter_none}
use Rattle.polygons.proofs.Bits.{small_back}
use Rattle.polygons.proofs.Numbers.{filled_skip, filled_none, filled_one}

abbrev pub nothing : Climb
nothing = record { first = pos 0; end = pos 0; number = 0 }

pub step_above : (s : Sweep) → 0 < line_distance s.ruling.lines
step_above s = let h = s.ruling.apart_least in omega (arith, h)

pub first_near : (s : Sweep) (c : Climb) → IsSweep s → s.begun < length s.climbs.items → c ≡ get_or s.climbs.items s.begun c → nat_abs c.first ≤ 2 ^ 25
first_near s c h l e =
    let sound = rw (← e) at (All-get_or (IsClimb (length s.edges.now)) s.climbs.items s.begun c l h.sound) in
    sound.range.first_in

pub sound_active : (s : Sweep) → IsSweep s → All (IsClimb (length s.edges.now)) s.active.items
sound_active s h =
    let n = length s.edges.now in
    let p : Climb → Bool = λ c. int_lt s.line c.end in
    let P : List Climb → Type 0 = All (IsClimb n) in
    subst P (sym h.active_is) (All-filter p (IsClimb n) (take s.begun s.climbs.items) (All-take (IsClimb n) s.begun s.climbs.items h.sound))

-- a climb begins at this line
pub begun_one : (s : Sweep) (c : Climb) (v : Vec Climb) → IsSweep s → s.begun < length s.climbs.items → c ≡ get_or s.climbs.items s.begun c
    → c.first ≤ℤ s.line → v.items ≡ s.active.items ++ (c ∷ []) → IsSweep (record s { active = v; begun = s.begun + 1 })
begun_one s c v h l e f a =
    let cs = s.climbs.items in
    let same : get_or cs s.begun c ≡ c = sym e in
    let more = drop_more cs s.begun c l in
    let ahead = rw more at h.ahead in
    let first : s.line ≤ℤ c.first = rw same at (All-head (λ x. s.line ≤ℤ x.first) (get_or cs s.begun c) (drop (s.begun + 1) cs) ahead) in
    let sound = rw same at (All-get_or (IsClimb (length s.edges.now)) cs s.begun c l h.sound) in
    let rising = sound.range.rising in
    let t = lt_true s.line c.end (omega (arith, ints, f, first, rising)) in
    let P : Climb → Type 0 = λ x. x.first ≤ℤ s.line in
    record {
      same = h.same;
      sound = h.sound;
      rises = h.rises;
      begun_in = omega (arith, l);
      passed = All-more P cs s.begun c l h.passed (rw same f);
      ahead = All-tail (λ x. s.line ≤ℤ x.first) (get_or cs s.begun c) (drop (s.begun + 1) cs) ahead;
      active_is = a ∙ ap (λ xs. xs ++ (c ∷ [])) h.active_is ∙ sym (filter_more (λ x. int_lt s.line x.end) cs s.begun c l ∙ (rw (same, t) refl));
      line_in = h.line_in;
    }

-- the climbs from one on that begins after this line
beyond_from : (s : Sweep) → IsSweep s → s.begun < length s.climbs.items → (c : Climb) → s.line <ℤ (get_or s.climbs.items s.begun c).first
    → All (λ x. s.line <ℤ x.first) (drop s.begun s.climbs.items)
beyond_from s h l c f k d m =
    let cs = s.climbs.items in
    let n = length-drop s.begun cs in
    let r = h.rises s.begun (s.begun + k) c (omega arith) (omega (arith, m, n)) in
    let e = get_or-drop s.begun cs k c in
    let g = get_or_default (drop s.begun cs) k d c m in
    let Q : Climb → Type 0 = λ x. s.line <ℤ x.first in
    subst Q (sym (g ∙ e)) (omega (arith, ints, f, r))

pub ready_at : (s : Sweep) (c : Climb) → IsCut s → s.begun < length s.climbs.items → c ≡ get_or s.climbs.items s.begun c → s.line <ℤ c.first → IsReady s
ready_at s c h l e f =
    let g : s.line <ℤ (get_or s.climbs.items s.begun c).first = rw (← e) f in
    record {
      sound = h.sound;
      beyond = beyond_from s h.sound l c g;
      some = elim (h.begins) [
        | inl p ↦ p
        | inr p ↦ (let q = p.1 c in absurd (omega (arith, ints, q, g)))
      ];
    }

pub ready_after : (s : Sweep) → IsCut s → length s.climbs.items ≤ s.begun → IsReady s
ready_after s h l =
    let P : List Climb → Type 0 = All (λ x. s.line <ℤ x.first) in
    record {
      sound = h.sound;
      beyond = subst P (sym (drop_all s.begun s.climbs.items l)) (All-nil (λ x. s.line <ℤ x.first));
      some = elim (h.begins) [
        | inl p ↦ p
        | inr p ↦ absurd (omega (arith, p.0, l))
      ];
    }

-- all active climbs are on this line, and no others
pub active_is_on : (s : Sweep) → IsReady s → s.active.items ≡ filter (is_on s.line) s.climbs.items
active_is_on s h = let k = h.sound in k.active_is ∙ active_on s.line s.begun s.climbs.items k.passed h.beyond

pub line_crossed : (s : Sweep) → IsReady s → list_any (crosses s.ruling.lines s.line) s.edges.now ≡ true
line_crossed s h =
    let k = h.sound in
    let e = ap length (active_is_on s h) in
    let m = h.some in
    one_crosses s.ruling.lines s.edges.now s.climbs.items k.same (step_above s) s.line (omega (arith, e, m))

pub line_below : (s : Sweep) → IsReady s → nat_abs (s.line +ℤ pos 1) ≤ 2 ^ 25
line_below s h =
    let k = h.sound in
    let n = length s.edges.now in
    let xs = take s.begun s.climbs.items in
    let p : Climb → Bool = λ c. int_lt s.line c.end in
    let m : 0 < length (filter p xs) = rw (← k.active_is) h.some in
    let a = All-get_or (IsClimb n) (filter p xs) 0 nothing m (All-filter p (IsClimb n) xs (All-take (IsClimb n) s.begun s.climbs.items k.sound)) in
    let b = All-get_or (λ c. p c ≡ true) (filter p xs) 0 nothing m (filter_passes p xs) in
    let c = get_or (filter p xs) 0 nothing in
    let l = lt_from s.line c.end b in
    let r = a.range.end_in in
    let q = k.line_in in
    omega (arith, ints, l, r, q)

filter_twice : {X : Type 0} (p q : X → Bool) (xs : List X) → ((x : X) → q x ≡ true → p x ≡ true) → filter q (filter p xs) ≡ filter q xs
filter_twice p q [] h = refl
filter_twice p q (x ∷ xs) h =
    elim (cases_Bool (q x)) [
      | inl e ↦ (let f = h x e in rw (f, e) (ap (λ ys. x ∷ ys) (filter_twice p q xs h)))
      | inr e ↦ elim (cases_Bool (p x)) [
        | inl f ↦ rw (f, e) (filter_twice p q xs h)
        | inr f ↦ rw (f, e) (filter_twice p q xs h)
      ]
    ]

pub finished : (s : Sweep) (v : Vec Climb) → IsReady s → v.items ≡ filter (λ c. int_lt (s.line +ℤ pos 1) c.end) s.active.items
    → IsSweep (record s { line = s.line +ℤ pos 1; active = v })
finished s v h e =
    let k = h.sound in
    let xs = take s.begun s.climbs.items in
    record {
      same = k.same;
      sound = k.sound;
      rises = k.rises;
      begun_in = k.begun_in;
      passed = All-weaker (λ c. c.first ≤ℤ s.line) (λ c. c.first ≤ℤ (s.line +ℤ pos 1)) (λ c l. omega (arith, ints, l)) xs k.passed;
      ahead = All-weaker (λ c. s.line <ℤ c.first) (λ c. (s.line +ℤ pos 1) ≤ℤ c.first) (λ c l. omega (arith, ints, l)) (drop s.begun s.climbs.items) h.beyond;
      active_is = e ∙ ap (filter (λ c. int_lt (s.line +ℤ pos 1) c.end)) k.active_is
          ∙ filter_twice (λ c. int_lt s.line c.end) (λ c. int_lt (s.line +ℤ pos 1) c.end) xs
          (λ c l. let m = lt_from (s.line +ℤ pos 1) c.end l in lt_true s.line c.end (omega (arith, ints, m)));
      line_in = line_below s h;
    }

pub passed_line : (s : Sweep) (v : Vec Climb) → IsReady s → left s ≡ these s ∷ left (record s { line = s.line +ℤ pos 1; active = v })
passed_line s v h = filled_one s.ruling.lines (step_above s) s.rule s.edges.now s.line (line_crossed s h)

-- no climb that has begun is left, from this line on
ended : (s : Sweep) → IsSweep s → s.active.items ≡ [] → (j : ℤ) → s.line ≤ℤ j → All (λ c. is_on j c ≡ false) (take s.begun s.climbs.items)
ended s h e j l =
    let xs = take s.begun s.climbs.items in
    All-weaker (λ c. int_lt s.line c.end ≡ false) (λ c. is_on j c ≡ false)
    (λ c f. let m = lt_not s.line c.end f in and_right (int_le c.first j) (int_lt j c.end) (lt_false j c.end (omega (arith, ints, m, l))))
    xs (none_from_filter (λ c. int_lt s.line c.end) xs (sym h.active_is ∙ e))

none_on : (s : Sweep) (j : ℤ) → All (λ c. is_on j c ≡ false) (take s.begun s.climbs.items) → All (λ c. is_on j c ≡ false) (drop s.begun s.climbs.items)
    → All (λ c. is_on j c ≡ false) s.climbs.items
none_on s j p q =
    let P : List Climb → Type 0 = All (λ c. is_on j c ≡ false) in
    subst P (take-append-drop s.begun s.climbs.items) (All-append (λ c. is_on j c ≡ false) (take s.begun s.climbs.items) (drop s.begun s.climbs.items) p q)

pub no_line_left : (s : Sweep) → IsSweep s → s.active.items ≡ [] → length s.climbs.items ≤ s.begun → left s ≡ []
no_line_left s h e l =
    filled_none s.ruling.lines (step_above s) s.rule s.edges.now s.line
    (λ j m. none_crosses s.ruling.lines s.edges.now s.climbs.items h.same (step_above s) j
    (none_on s j (ended s h e j m)
    (let P : List Climb → Type 0 = All (λ c. is_on j c ≡ false) in subst P (sym (drop_all s.begun s.climbs.items l)) (All-nil (λ c. is_on j c ≡ false)))))

module _ (s : Sweep) (c : Climb) (h : IsSweep s) (e : s.active.items ≡ []) (l : s.begun < length s.climbs.items) (is : c ≡ get_or s.climbs.items s.begun c) where
  -- this climb is the first that is left
  first_left : (P : ℤ → Type 0) → P c.first → ((x y : ℤ) → x ≤ℤ y → P x → P y) → All (λ x. P x.first) (drop s.begun s.climbs.items)
  first_left P p up k d m =
      let cs = s.climbs.items in
      let n = length-drop s.begun cs in
      let r = h.rises s.begun (s.begun + k) c (omega arith) (omega (arith, m, n)) in
      let f = get_or-drop s.begun cs k c in
      let g = get_or_default (drop s.begun cs) k d c m in
      let Q : Climb → Type 0 = λ x. P x.first in
      let here : P (get_or cs s.begun c).first = subst Q is p in
      subst Q (sym (g ∙ f)) (up (get_or cs s.begun c).first (get_or cs (s.begun + k) c).first r here)

  line_up : s.line ≤ℤ c.first
  line_up =
      let more = drop_more s.climbs.items s.begun c l in
      let ahead = rw more at h.ahead in
      let p = All-head (λ x. s.line ≤ℤ x.first) (get_or s.climbs.items s.begun c) (drop (s.begun + 1) s.climbs.items) ahead in
      rw (← is) at p

  pub skipped : IsSweep (record s { line = c.first })
  skipped =
      let sound = rw (← is) at (All-get_or (IsClimb (length s.edges.now)) s.climbs.items s.begun c l h.sound) in
      let u = line_up in
      let xs = take s.begun s.climbs.items in
      record {
        same = h.same;
        sound = h.sound;
        rises = h.rises;
        begun_in = h.begun_in;
        passed = All-weaker (λ x. x.first ≤ℤ s.line) (λ x. x.first ≤ℤ c.first) (λ x m. omega (arith, ints, m, u)) xs h.passed;
        ahead = first_left (λ z. c.first ≤ℤ z) (omega (arith, ints)) (λ x y m n. omega (arith, ints, m, n));
        active_is = e ∙ sym (filter_none (λ x. int_lt c.first x.end) xs
            (All-weaker (λ x. int_lt s.line x.end ≡ false) (λ x. int_lt c.first x.end ≡ false)
            (λ x f. let m = lt_not s.line x.end f in lt_false c.first x.end (omega (arith, ints, m, u)))
            xs (none_from_filter (λ x. int_lt s.line x.end) xs (sym h.active_is ∙ e))));
        line_in = sound.range.first_in;
      }

  pub skipped_left : left (record s { line = c.first }) ≡ left s
  skipped_left =
      sym (filled_skip s.ruling.lines (step_above s) s.rule s.edges.now s.line c.first line_up
      (λ j a b. none_crosses s.ruling.lines s.edges.now s.climbs.items h.same (step_above s) j
      (none_on s j (ended s h e j a)
      (All-weaker (λ x. j <ℤ x.first) (λ x. is_on j x ≡ false) (λ x m. and_left (int_le x.first j) (int_lt j x.end) (le_false x.first j m))
      (drop s.begun s.climbs.items) (first_left (λ z. j <ℤ z) b (λ x y m n. omega (arith, ints, m, n)))))))

  pub skipped_cut : IsCut (record s { line = c.first })
  skipped_cut = record {
    sound = skipped;
    begins = inr (
      l,
      (λ d.
          let g = get_or_default s.climbs.items s.begun d c l in
          let Q : Climb → Type 0 = λ x. x.first ≤ℤ c.first in
          subst Q (is ∙ sym g) (omega (arith, ints))),
    );
  }

-- what is kept past this line, as code tests it
pub kept : (s : Sweep) (line : ℤ) → IsSweep s → filter (λ c. int_lt line (to_z w32 (of_z w32 c.end))) s.active.items ≡ filter (λ c. int_lt line c.end) s.active.items
kept s line h =
    filter_same (λ c. int_lt line (to_z w32 (of_z w32 c.end))) (λ c. int_lt line c.end) s.active.items
    (All-weaker (IsClimb (length s.edges.now)) (λ c. int_lt line (to_z w32 (of_z w32 c.end)) ≡ int_lt line c.end)
    (λ c k. let e = small_back c.end k.range.end_in in ap (int_lt line) e) s.active.items (sound_active s h))

-- the numbers of the edges that cross this line
pub active_numbers : (s : Sweep) → IsReady s → SameItems (numbers_on s.ruling.lines s.line 0 s.edges.now) (map number_of s.active.items)
active_numbers s h =
    let k = h.sound in
    let P : List Climb → Type 0 = λ cs. SameItems (numbers_on s.ruling.lines s.line 0 s.edges.now) (map number_of cs) in
    subst P (sym (active_is_on s h)) (same_numbers s.ruling.lines s.edges.now s.climbs.items k.same (step_above s) s.line)

pub active_crosses : (s : Sweep) → IsReady s → All (λ c. crosses s.ruling.lines s.line (get_or s.edges.now c.number nowhere) ≡ true) s.active.items
active_crosses s h = climbs_cross s.ruling.lines s.line s.edges.now s.active.items (active_numbers s h)
