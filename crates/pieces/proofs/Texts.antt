-- Bytes that are put one after another.
use Rattle.std.proofs.Common.{◌≡◌, ℕ, ◌+◌, ◌^◌, ◌<◌, ◌≤◌, List, [], ◌++◌, length, take, drop, Option, Some, None, Result, Ok, Err, refl, arith, sym, ◌∙◌, ap, subst, append_assoc, length-append, length-drop, append-nil, IfOk}
use Rattle.std.proofs.lemmas.List.{take-append-le, drop-append-le, drop-drop, take_all}
use Rattle.std.specs.Io.KnownBytes.{Appends}
use Rattle.devices.specs.declared.fault.WriteFault.{WriteFault}
use Rattle.devices.specs.Sinks.{SinkState, Writes, taken_of}
use Rattle.devices.proofs.KnownBytes.{Appends-more, Appends-none}
use Rattle.pieces.specs.declared.text.Text.{Text}
use Rattle.pieces.specs.Texts.{Fails, Finishes, FinishesBy, Goes, GoesBy, IsNew, IsSound, Progress, Puts, Took, Waits, WritesText, count_of, counted, progress}

-- the sink took the first bytes, and then some of the others
took_more : (a b c : SinkState) (f n m : ℕ) (bytes : List ℕ) → Took a b 0 n bytes → Took b c f m (drop n bytes) → Took a c f (n + m) bytes
took_more a b c f n m bytes h k = record {
  held = Appends-more a.held b.held c.held bytes n m h.held k.held;
  faults = omega (arith, h.faults, k.faults);
}

-- they may be followed by others
took_in : (a b : SinkState) (f n : ℕ) (bytes more : List ℕ) → n ≤ length bytes → Took a b f n bytes → Took a b f n (bytes ++ more)
took_in a b f n bytes more within h =
    let P : List ℕ → Type 0 = λ z. Appends a.held b.held z in
    record { held = subst P (sym (take-append-le n bytes more within)) h.held; faults = h.faults }

took_of : (a b : SinkState) (f n : ℕ) (bytes other : List ℕ) → bytes ≡ other → Took a b f n bytes → Took a b f n other
took_of a b f n bytes other e h = subst (λ (z : List ℕ). Took a b f n z) e h

counted_more : (d d' n m : ℕ) → counted d' ≡ counted (d + n) → counted (d' + m) ≡ counted (d + (n + m))
counted_more d d' n m e = omega (arith, e)

-- what was counted, with what was put after it
counted_on : (a b m n : ℕ) → b ≡ counted (a + m) → counted (b + n) ≡ counted (a + (m + n))
counted_on a b m n e = omega (arith, e)

-- what waits with more, where the first bytes were taken
rest_of : (waits xs ys left : List ℕ) (n : ℕ) → n ≤ length (waits ++ xs) → drop n (waits ++ xs) ≡ left → drop n (waits ++ (xs ++ ys)) ≡ left ++ ys
rest_of waits xs ys left n within e =
    ap (λ (z : List ℕ). drop n z) (sym (append_assoc waits xs ys)) ∙ drop-append-le n (waits ++ xs) ys within ∙ ap (λ (z : List ℕ). z ++ ys) e

took_both : (a b c : Progress) (xs ys : List ℕ) (f m : ℕ) (h : Waits a b xs) → Took b.sink c.sink f m (b.waits ++ ys) → Took a.sink c.sink f (h.taken + m) (a.waits ++ (xs ++ ys))
took_both a b c xs ys f m h k =
    let first = took_of _ _ 0 h.taken _ _ (append_assoc a.waits xs ys) (took_in _ _ 0 h.taken (a.waits ++ xs) ys h.within h.took) in
    took_more _ _ _ f h.taken m (a.waits ++ (xs ++ ys)) first (took_of _ _ f m _ _ (sym (rest_of a.waits xs ys b.waits h.taken h.within h.left)) k)

-- how long what waits and what is put are together
sizes : (a b : Progress) (xs ys : List ℕ) (h : Waits a b xs) → length (a.waits ++ (xs ++ ys)) ≡ h.taken + length (b.waits ++ ys)
sizes a b xs ys h =
    omega (arith, h.within, ap length h.left, length-drop h.taken (a.waits ++ xs), length-append a.waits xs, length-append a.waits (xs ++ ys), length-append xs ys, length-append b.waits ys)

waits_more : (a b c : Progress) (xs ys : List ℕ) → Waits a b xs → Waits b c ys → Waits a c (xs ++ ys)
waits_more a b c xs ys h k = record {
  taken = h.taken + k.taken;
  took = took_both a b c xs ys 0 k.taken h k.took;
  within = omega (arith, k.within, sizes a b xs ys h);
  left = sym (drop-drop k.taken h.taken (a.waits ++ (xs ++ ys))) ∙ ap (λ (z : List ℕ). drop k.taken z) (rest_of a.waits xs ys b.waits h.taken h.within h.left) ∙ k.left;
  count = k.count ∙ counted_more a.done b.done h.taken k.taken h.count;
}

fails_more : (a b c : Progress) (xs ys : List ℕ) (e : WriteFault) → Waits a b xs → Fails b c ys e → Fails a c (xs ++ ys) e
fails_more a b c xs ys e h k = record {
  taken = h.taken + k.taken;
  took = took_both a b c xs ys 1 k.taken h k.took;
  within = omega (arith, k.within, sizes a b xs ys h);
  count = k.count ∙ counted_more a.done b.done h.taken k.taken h.count;
}

failed_before : (a b c : Progress) (xs ys : List ℕ) (e : WriteFault) → Fails a b xs e → c.sink ≡ b.sink → Fails a c (xs ++ ys) e
failed_before a b c xs ys e h same = record {
  taken = h.taken;
  took = subst (λ (s : SinkState). Took a.sink s 1 h.taken (a.waits ++ (xs ++ ys))) (sym same)
      (took_of _ _ 1 h.taken _ _ (append_assoc a.waits xs ys) (took_in _ _ 1 h.taken (a.waits ++ xs) ys (omega (arith, h.within)) h.took));
  within = omega (arith, h.within, length-append a.waits xs, length-append a.waits (xs ++ ys), length-append xs ys);
  count = h.count;
}

goes_by : (f g i : Option WriteFault) (a b c : Progress) (xs ys : List ℕ) → GoesBy f g a b xs → GoesBy g i b c ys → GoesBy f i a c (xs ++ ys)
goes_by None None None a b c xs ys h k = waits_more a b c xs ys h k
goes_by None None (Some e) a b c xs ys h k = fails_more a b c xs ys e h k
goes_by None (Some e) i a b c xs ys h k =
    subst (λ (o : Option WriteFault). GoesBy None o a c (xs ++ ys)) (sym k.0) (failed_before a b c xs ys e h k.1)
goes_by (Some e) g i a b c xs ys h k =
    let after = subst (λ (o : Option WriteFault). GoesBy o i b c ys) h.0 k in
    (after.0, after.1 ∙ h.1)

-- bytes were kept that there was room for
kept_by : (f : Option WriteFault) (a b : Progress) (bytes : List ℕ) → b.sink ≡ a.sink → b.done ≡ a.done → b.waits ≡ a.waits ++ bytes → GoesBy f f a b bytes
kept_by None a b bytes same done waits = record {
  taken = 0;
  took = record {
    held = subst (λ (s : SinkState). Appends a.sink.held s.held []) (sym same) (Appends-none a.sink.held [] refl);
    faults = ap (λ (s : SinkState). s.faults) same ∙ omega arith;
  };
  within = omega arith;
  left = sym waits;
  count = omega (arith, done);
}
kept_by (Some e) a b bytes same done waits = (refl, same)

pub kept : (a b : Progress) (bytes : List ℕ) → b.fault ≡ a.fault → b.sink ≡ a.sink → b.done ≡ a.done → b.waits ≡ a.waits ++ bytes → Goes a b bytes
kept a b bytes fault same done waits =
    subst (λ (o : Option WriteFault). GoesBy a.fault o a b bytes) (sym fault) (kept_by a.fault a b bytes same done waits)

-- what waited was written, so nothing waits
all_taken : (a b : Progress) (n : ℕ) → Waits a b [] → b.waits ≡ [] → n ≡ counted b.done → Took a.sink b.sink 0 (length a.waits) a.waits × (n ≡ counted (a.done + length a.waits))
all_taken a b n h none count =
    let size : h.taken ≡ length a.waits = omega (arith, h.within, ap length h.left, ap length none, length-drop h.taken (a.waits ++ []), length-append a.waits []) in
    let whole = took_of _ _ 0 h.taken _ _ (append-nil a.waits) h.took in
    (subst (λ (k : ℕ). Took a.sink b.sink 0 k a.waits) size whole, omega (arith, size, h.count, count))

finished_by : (f g : Option WriteFault) (a b : Progress) (n : ℕ) → GoesBy f g a b [] → b.waits ≡ [] → n ≡ counted b.done → g ≡ None → FinishesBy f a b.sink (Ok n)
finished_by None None a b n h none count e = all_taken a b n h none count
finished_by None (Some fault) a b n h none count e = cc
finished_by (Some fault) g a b n h none count e = cc

pub finished : (a b : Progress) (n : ℕ) → Goes a b [] → b.waits ≡ [] → n ≡ counted b.done → b.fault ≡ None → FinishesBy a.fault a b.sink (Ok n)
finished a b n h none count e = finished_by a.fault b.fault a b n h none count e

-- a text was put from its beginning, and finished
from_begin : (a b : Progress) (new : SinkState) (text : List ℕ) (f m : ℕ) → a.waits ≡ [] → (h : Waits a b text) → Took b.sink new f m b.waits → Took a.sink new f (h.taken + m) text × (length text ≡ h.taken + length b.waits)
from_begin a b new text f m none h k =
    let whole : a.waits ++ text ≡ text = ap (λ (z : List ℕ). z ++ text) none in
    let rest : drop h.taken text ≡ b.waits = ap (λ (z : List ℕ). drop h.taken z) (sym whole) ∙ h.left in (
      took_more _ _ _ f h.taken m text (took_of _ _ 0 h.taken _ _ whole h.took) (took_of _ _ f m _ _ (sym rest) k),
      omega (arith, h.within, ap length whole, ap length rest, length-drop h.taken text),
    )

-- all of it was taken, or the first bytes
all_written : (old new : SinkState) (text : List ℕ) (n : ℕ) → Took old new 0 (length text) text → n ≡ counted (length text) → WritesText old new text (Ok n)
all_written old new text n h count = (
  subst (λ (z : List ℕ). Appends old.held new.held z) (take_all (length text) text (omega arith)) h.held,
  h.faults ∙ omega arith,
  count,
)

written_by : (g : Option WriteFault) (a b : Progress) (new : SinkState) (text : List ℕ) (r : Result ℕ WriteFault) → a.waits ≡ [] → a.done ≡ 0 → GoesBy None g a b text → FinishesBy g b new r → WritesText a.sink new text r
written_by None a b new text (Ok n) none first h k =
    let all = from_begin a b new text 0 (length b.waits) none h k.0 in
    all_written a.sink new text n (subst (λ (m : ℕ). Took a.sink new 0 m text) (sym all.1) all.0)
    (k.1 ∙ counted_more a.done b.done h.taken (length b.waits) h.count ∙ ap counted (omega (arith, first, all.1)))
written_by None a b new text (Err e) none first h k =
    let all = from_begin a b new text 1 k.0 none h k.1 in (
      h.taken + k.0,
      all.0.held,
      omega (arith, all.1, k.2),
      k.3 ∙ counted_more a.done b.done h.taken k.0 h.count ∙ ap counted (omega (arith, first)),
      all.0.faults,
    )
written_by (Some e) a b new text r none first h k =
    let whole : a.waits ++ text ≡ text = ap (λ (z : List ℕ). z ++ text) none in
    let P : Result ℕ WriteFault → Type 0 = λ z. WritesText a.sink new text z in
    let took = subst (λ (s : SinkState). Took a.sink s 1 h.taken text) (sym k.1) (took_of _ _ 1 h.taken _ _ whole h.took) in
    subst P (sym k.0) (h.taken, took.held, omega (arith, h.within, ap length whole), h.count ∙ ap counted (omega (arith, first)), took.faults)

pub written : {K : Type 0} (state : K → SinkState) (a b : Text K) (new : SinkState) (text : List ℕ) (r : Result ℕ WriteFault) → IsNew a → Puts state a b text → Finishes state b new r → WritesText (state a.sink.now) new text r
written state a b new text r begun puts end =
    let goes = subst (λ (o : Option WriteFault). GoesBy o b.fault (progress state a) (progress state b) text) begun.2 puts.goes in
    written_by b.fault (progress state a) (progress state b) new text r (ap (λ (n : ℕ). take n a.piece) begun.0) begun.1 goes end

-- a text that a count does not exceed is written as `Writes` says, and all of it is counted
pub writes : (first new : SinkState) (text : List ℕ) (r : Result ℕ WriteFault) → length text < 2 ^ 64 → WritesText first new text r → Writes first new text r
writes first new text (Ok n) few h = (h.0, h.1)
writes first new text (Err e) few h =
    let count : taken_of e ≡ h.0 = omega (arith, h.2, h.3, few) in
    (subst (λ (m : ℕ). Appends first.held new.held (take m text)) (sym count) h.1, omega (arith, count, h.2), h.4)

pub all_counted : (first new : SinkState) (text : List ℕ) (r : Result ℕ WriteFault) → length text < 2 ^ 64 → WritesText first new text r → IfOk r (λ n. n ≡ length text)
all_counted first new text (Ok n) few h = omega (arith, h.2, few)
all_counted first new text (Err e) few h = tt

-- these bytes, in other words
pub puts_as : {K : Type 0} {state : K → SinkState} {a b : Text K} {xs ys : List ℕ} → Puts state a b xs → xs ≡ ys → Puts state a b ys
puts_as {state = state} {a = a} {b = b} h e = subst (λ (z : List ℕ). Puts state a b z) e h

-- no bytes were put
pub none_put : {K : Type 0} {state : K → SinkState} {a : Text K} → IsSound state a → Puts state a a []
none_put {state = state} {a = a} sound =
    record { same = refl; sound = sound; goes = kept (progress state a) (progress state a) [] refl refl refl (sym (append-nil _)); count = omega arith }

-- of all bytes, these are still to be put
pub record Left {K : Type 0} (state : K → SinkState) (old new : Text K) (rest all : List ℕ) : Type 0 where
  pub so_far : List ℕ
  pub puts : Puts state old new so_far
  pub all_is : so_far ++ rest ≡ all

-- bytes were put, and then others
infixl 9 ◌then◌
pub ◌then◌ : {K : Type 0} {state : K → SinkState} {a b c : Text K} {xs ys : List ℕ} → Puts state a b xs → Puts state b c ys → Puts state a c (xs ++ ys)
◌then◌ {a = a} {xs = xs} {ys = ys} h k = record {
  same = k.same ∙ h.same;
  sound = k.sound;
  goes = goes_by _ _ _ _ _ _ _ _ h.goes k.goes;
  count = k.count ∙ counted_on _ _ (length xs) (length ys) h.count ∙ ap (λ (n : ℕ). counted (count_of a + n)) (sym (length-append xs ys));
}

-- at first all are
pub all_left : {K : Type 0} {state : K → SinkState} {a : Text K} {rest all : List ℕ} → IsSound state a → rest ≡ all → Left state a a rest all
all_left {state = state} {a = a} sound e = record {
  so_far = [];
  puts = none_put sound;
  all_is = e;
}

-- the next ones were put
pub next_put : {K : Type 0} {state : K → SinkState} {a b c : Text K} {xs rest left all : List ℕ} → Left state a b left all → Puts state b c xs → left ≡ xs ++ rest → Left state a c rest all
next_put {xs = xs} {rest = rest} h k e = record {
  so_far = h.so_far ++ xs;
  puts = h.puts then k;
  all_is = append_assoc h.so_far xs rest ∙ ap (λ (z : List ℕ). h.so_far ++ z) (sym e) ∙ h.all_is;
}

-- those that are left, in other words
pub left_as : {K : Type 0} {state : K → SinkState} {a b : Text K} {left rest all : List ℕ} → Left state a b left all → left ≡ rest → Left state a b rest all
left_as {state = state} {a = a} {b = b} {all = all} h e = subst (λ (z : List ℕ). Left state a b z all) e h

-- the last ones were put
pub last_put : {K : Type 0} {state : K → SinkState} {a b c : Text K} {xs left all : List ℕ} → Left state a b left all → Puts state b c xs → left ≡ xs → Puts state a c all
last_put h k e = puts_as (h.puts then k) (ap (λ (z : List ℕ). h.so_far ++ z) (sym e) ∙ h.all_is)

-- none is left
pub all_put : {K : Type 0} {state : K → SinkState} {a b : Text K} {left all : List ℕ} → Left state a b left all → left ≡ [] → Puts state a b all
all_put h e = puts_as h.puts (sym (append-nil h.so_far) ∙ ap (λ (z : List ℕ). h.so_far ++ z) (sym e) ∙ h.all_is)
