use Rattle.std.proofs.Common.{arith, rules, ◌≡◌, ◌∙◌, ◌<◌, ◌++◌, ◌∷◌, [], List, map, get_or, length, ap, ap₂, sym, subst, true, IsPermutation}
use Rattle.std.proofs.lemmas.List.{take_all, get_or_default}
use Rattle.std.proofs.lemmas.List.Elements.{All-get_or}
use Rattle.std.proofs.lemmas.List.Sorted.{answers_always}
use Rattle.polygons.specs.declared.climb.Crossing as code
use Rattle.polygons.specs.Fills.{crosses}
use Rattle.polygons.specs.Climbs.{IsClimb, nowhere, crossing_at, crossing_of}
use Rattle.polygons.proofs.OnLines.{number_of}
use Rattle.polygons.proofs.Bits.{small_back}
use Rattle.polygons.proofs.Sorts.{sorted_is, mapped_more}
use Rattle.polygons.proofs.Steps.{sound_active, active_crosses, active_numbers, nothing}
use Rattle.polygons.proofs.sweep.Sweep.crossings.Goals as goal

pub offset_bounds-self-climb : goal.offset_bounds-self-climb
offset_bounds-self-climb c =
    let s = c.args.self.now in
    let d = ap length c.deref-climb-items.ensures.value in
    let l : c.loop-climb.climb-index < length s.active.items = omega (arith, d, c.loop-climb-test.true) in
    let k = All-get_or (IsClimb (length s.edges.now)) s.active.items c.loop-climb.climb-index nothing l (sound_active s c.requires.sound) in
    let n = k.number_in in
    rw c.deref-climb-items.ensures.value (search rules)

pub bounds-self-climb : goal.bounds-self-climb
bounds-self-climb c =
    let s = c.args.self.now in
    let d = ap length c.deref-climb-items.ensures.value in
    let l : c.loop-climb.climb-index < length s.active.items = omega (arith, d, c.loop-climb-test.true) in
    let k = All-get_or (IsClimb (length s.edges.now)) s.active.items c.loop-climb.climb-index nothing l (sound_active s c.requires.sound) in
    rw c.deref-climb-items.ensures.value k.number_in

pub crossing-requires-clause-crosses : goal.crossing-requires-clause-crosses
crossing-requires-clause-crosses c =
    let s = c.args.self.now in
    let d = ap length c.deref-climb-items.ensures.value in
    let l : c.loop-climb.climb-index < length s.active.items = omega (arith, d, c.loop-climb-test.true) in
    let x = get_or s.active.items c.loop-climb.climb-index nothing in
    let k = All-get_or (IsClimb (length s.edges.now)) s.active.items c.loop-climb.climb-index nothing l (sound_active s c.requires.sound) in
    let h = All-get_or (λ y. crosses s.ruling.lines s.line (get_or s.edges.now y.number nowhere) ≡ true) s.active.items c.loop-climb.climb-index nothing l (active_crosses s c.requires) in
    let e = get_or_default s.edges.now x.number c.index-self-climb.result nowhere k.number_in in
    rw (c.deref-climb-items.ensures.value, small_back s.line c.requires.sound.line_in) (ap (crosses s.ruling.lines s.line) e ∙ h)

pub loop-climb-preserved : goal.loop-climb-preserved
loop-climb-preserved c =
    let s = c.args.self.now in
    let i = c.loop-climb.climb-index in
    let d = ap length c.deref-climb-items.ensures.value in
    let l : i < length s.active.items = omega (arith, d, c.loop-climb-test.true) in
    let x = get_or s.active.items i nothing in
    let k = All-get_or (IsClimb (length s.edges.now)) s.active.items i nothing l (sound_active s c.requires.sound) in
    let e = get_or_default s.edges.now x.number c.index-self-climb.result nowhere k.number_in in
    let v = rw (c.deref-climb-items.ensures.value, small_back s.line c.requires.sound.line_in) at c.crossing.ensures in
    let w = v ∙ ap (λ y. crossing_of s.ruling.lines s.line y x.number) e in
    c.in_ok-push.ensures.items
    ∙ ap₂ (λ xs y. xs ++ (y ∷ [])) c.loop-climb.invariant w
    ∙ sym (mapped_more (crossing_at s.ruling.lines s.line s.edges.now) s.active.items i l)

pub returns : goal.returns
returns c =
    let s = c.args.self.now in
    let ys = c.sort_unstable_by_key.new.self.items in
    let d = ap length c.deref-climb-items.ensures.value in
    let q = c.sort_unstable_by_key.ensures.sorted (λ y. (y.rank, y.number)) (answers_always _ _ _ (λ f a r g h. search rules)) in
    let t = take_all c.loop-climb.climb-index s.active.items (omega (arith, d, c.loop-climb-test.false)) in
    let made = crossing_at s.ruling.lines s.line s.edges.now in
    let P : List code.Crossing → Type 0 = λ xs. IsPermutation xs ys in
    let p = subst P (c.loop-climb.invariant ∙ ap (λ xs. map made (map number_of xs)) t) c.sort_unstable_by_key.ensures.permutation in
    sorted_is s.ruling.lines s.line s.edges.now (map number_of s.active.items) ys (active_numbers s c.requires) p q
