-- Laws of a picture: one more row, and where its bytes are.
use Rattle.std.proofs.Common.{◌≡◌, ℕ, ◌+◌, ◌-◌, ◌<◌, ◌≤◌, zero, suc, List, [], ◌++◌, length, take, drop, refl, sym, ap}
use Rattle.std.proofs.Common.{◌∙◌, arith, length-append, append_assoc, append-nil, add-zero, add-one, zero-add, Bool}
use Rattle.std.proofs.Common.{cond, nat_eq, true, false}
use Rattle.std.proofs.Math.Seq.{take-append_seam, drop-append_seam}
use Rattle.std.proofs.lemmas.Bool.{eqb-true}
use Rattle.std.proofs.lemmas.Bool.Decides.{nat_tests}
use Rattle.rows.specs.Pictures.{rows_bytes, head_if, picture_of}
use Rattle.rows.specs.Stops.{bytes_before, IsStoppedAt, GoesOn}

-- the first of the rows that are left
pub rows_first : (row : ℕ → List ℕ) (r n m : ℕ) → n ≡ m + 1 → rows_bytes row r n ≡ row r ++ rows_bytes row (r + 1) m
rows_first row r zero m e = absurd (omega (arith, e))
rows_first row r (suc n) m e = let same : n ≡ m = omega (arith, e, add-one n) in ap (λ (k : ℕ). row r ++ rows_bytes row (r + 1) k) same

-- rows in two runs
pub rows_join : (row : ℕ → List ℕ) (r n m : ℕ) → rows_bytes row r (n + m) ≡ rows_bytes row r n ++ rows_bytes row (r + n) m
rows_join row r zero m = rw (zero-add m) (ap (λ (k : ℕ). rows_bytes row k m) (sym (add-zero r)))
rows_join row r (suc n) m =
    rows_first row r (suc n + m) (n + m) (omega arith)
    ∙ ap (λ (z : List ℕ). row r ++ z) (rows_join row (r + 1) n m)
    ∙ sym (append_assoc (row r) (rows_bytes row (r + 1) n) (rows_bytes row (r + 1 + n) m))
    ∙ ap (λ (k : ℕ). row r ++ rows_bytes row (r + 1) n ++ rows_bytes row k m) {x = r + 1 + n} {y = r + suc n} (omega arith)

-- a row more
pub before_next : (head : List ℕ) (row : ℕ → List ℕ) (first r : ℕ) → first ≤ r → bytes_before head row first (r + 1) ≡ bytes_before head row first r + length (row r)
before_next head row first r le =
    let more : r + 1 - first ≡ (r - first) + 1 = omega arith in
    let at : first + (r - first) ≡ r = omega arith in
    let one : rows_bytes row (first + (r - first)) 1 ≡ row r = append-nil _ ∙ ap row at in
    let all : rows_bytes row first (r + 1 - first) ≡ rows_bytes row first (r - first) ++ row r =
    ap (rows_bytes row first) more ∙ rows_join row first (r - first) 1 ∙ ap (λ (z : List ℕ). rows_bytes row first (r - first) ++ z) one in
    omega (arith, ap length all, length-append (rows_bytes row first (r - first)) (row r))

-- later rows come later
pub before_grows : (head : List ℕ) (row : ℕ → List ℕ) (first q k : ℕ) → first ≤ q → bytes_before head row first q ≤ bytes_before head row first (q + k)
before_grows head row first q zero le = rw (add-zero q) (omega arith)
before_grows head row first q (suc k) le =
    let at : q + suc k ≡ q + k + 1 = omega arith in
    rw at (omega (arith, before_grows head row first q k le, before_next head row first (q + k) (omega arith)))

-- a picture is what comes before a row, and what comes from it on
pub split_at_row : (head : List ℕ) (row : ℕ → List ℕ) (foot : List ℕ) (rows first stop : ℕ) → first ≤ stop → stop ≤ rows → picture_of head row foot rows first ≡ (head_if head first ++ rows_bytes row first (stop - first)) ++ (rows_bytes row stop (rows - stop) ++ foot)
split_at_row head row foot rows first stop from to =
    let parts : rows - first ≡ (stop - first) + (rows - stop) = omega arith in
    let at : first + (stop - first) ≡ stop = omega arith in
    let cut : rows_bytes row first (rows - first) ≡ rows_bytes row first (stop - first) ++ rows_bytes row stop (rows - stop) =
    ap (rows_bytes row first) parts ∙ rows_join row first (stop - first) (rows - stop) ∙ ap (λ (k : ℕ). rows_bytes row first (stop - first) ++ rows_bytes row k (rows - stop)) at in
    let back = rows_bytes row stop (rows - stop) ++ foot in
    ap (λ (z : List ℕ). head_if head first ++ (z ++ foot)) cut
    ∙ ap (λ (z : List ℕ). head_if head first ++ z) (append_assoc (rows_bytes row first (stop - first)) (rows_bytes row stop (rows - stop)) foot)
    ∙ sym (append_assoc (head_if head first) (rows_bytes row first (stop - first)) back)

-- no head past row 0
pub no_head : (head : List ℕ) (r : ℕ) → 0 < r → head_if head r ≡ []
no_head head r pos = let e : nat_eq r 0 ≡ false = grind (arith, nat_tests) in ap (λ (b : Bool). cond b head []) e

-- a job from row `stop` goes on after the whole rows
pub goes_on : (head : List ℕ) (row : ℕ → List ℕ) (foot : List ℕ) (rows first n stop whole : ℕ) → IsStoppedAt head row rows first n stop whole → GoesOn head row foot rows first stop whole
goes_on head row foot rows first n stop whole s =
    elim (nat_eq stop first) as (λ b. nat_eq stop first ≡ b → GoesOn head row foot rows first stop whole) [
      | true ↦ λ e.
          let same : stop ≡ first = eqb-true stop first e in
          let none : whole ≡ 0 = s.whole_rows ∙ ap (λ (b : Bool). cond b 0 (bytes_before head row first stop)) e in
          rw (none, same) refl
      | false ↦ λ e.
          let later : first < stop = grind (arith, nat_tests, s.from) in
          let some : whole ≡ bytes_before head row first stop = s.whole_rows ∙ ap (λ (b : Bool). cond b 0 (bytes_before head row first stop)) e in
          let front = head_if head first ++ rows_bytes row first (stop - first) in
          let back = rows_bytes row stop (rows - stop) ++ foot in
          let all : picture_of head row foot rows first ≡ front ++ back = split_at_row head row foot rows first stop s.from s.to in
          let rest : picture_of head row foot rows stop ≡ back = ap (λ (z : List ℕ). z ++ back) (no_head head stop (omega arith)) in
          let size : whole ≡ length front = some ∙ sym (length-append (head_if head first) (rows_bytes row first (stop - first))) in
          let taken : take whole (picture_of head row foot rows first) ≡ front = ap (λ (k : ℕ). take k (picture_of head row foot rows first)) size ∙ ap (take (length front)) all ∙ take-append_seam front back in
          ap (λ (z : List ℕ). z ++ picture_of head row foot rows stop) taken ∙ ap (λ (z : List ℕ). front ++ z) rest ∙ sym all
    ] refl

-- a job from a later row gives the end of the picture from row 0 on
pub is_suffix : (head : List ℕ) (row : ℕ → List ℕ) (foot : List ℕ) (rows r : ℕ) → 0 < r → r ≤ rows → drop (bytes_before head row 0 r) (picture_of head row foot rows 0) ≡ picture_of head row foot rows r
is_suffix head row foot rows r pos to =
    let front = head_if head 0 ++ rows_bytes row 0 (r - 0) in
    let back = rows_bytes row r (rows - r) ++ foot in
    let all : picture_of head row foot rows 0 ≡ front ++ back = split_at_row head row foot rows 0 r (omega arith) to in
    let size : bytes_before head row 0 r ≡ length front = sym (length-append (head_if head 0) (rows_bytes row 0 (r - 0))) in
    ap (λ (k : ℕ). drop k (picture_of head row foot rows 0)) size ∙ ap (drop (length front)) all ∙ drop-append_seam front back
    ∙ sym (ap (λ (z : List ℕ). z ++ back) (no_head head r pos))

-- if the bytes up to row `at` are written and the next row is cut short, the picture is stopped there
pub stopped_at : (head : List ℕ) (row : ℕ → List ℕ) (rows first n at done whole : ℕ) → first ≤ at → at ≤ rows → done ≡ bytes_before head row first at → whole ≡ cond (nat_eq at first) 0 done → done ≤ n → (at < rows → n < done + length (row at)) → IsStoppedAt head row rows first n at whole
stopped_at head row rows first n at done whole from to before is le short = record {
  from = from;
  to = to;
  passed = λ q a b.
      let e : q + 1 + (at - (q + 1)) ≡ at = omega arith in
      let grows : bytes_before head row first (q + 1) ≤ bytes_before head row first at = rw e at (before_grows head row first (q + 1) (at - (q + 1)) (omega arith)) in
      omega (arith, grows, before, le);
  past = λ lt. omega (arith, short lt, before, before_next head row first at from);
  whole_rows = is ∙ ap (λ (k : ℕ). cond (nat_eq at first) 0 k) before;
}

-- so many rows more
pub before_rows : (head : List ℕ) (row : ℕ → List ℕ) (first at k : ℕ) → first ≤ at → bytes_before head row first (at + k) ≡ bytes_before head row first at + length (rows_bytes row at k)
before_rows head row first at k le =
    let parts : at + k - first ≡ (at - first) + k = omega arith in
    let there : first + (at - first) ≡ at = omega arith in
    let all : rows_bytes row first (at + k - first) ≡ rows_bytes row first (at - first) ++ rows_bytes row at k =
    ap (rows_bytes row first) parts ∙ rows_join row first (at - first) k ∙ ap (λ (r : ℕ). rows_bytes row first (at - first) ++ rows_bytes row r k) there in
    omega (arith, ap length all, length-append (rows_bytes row first (at - first)) (rows_bytes row at k))
