use Rattle.std.proofs.Common.{◌≡◌, ℕ, ◌+◌, ◌-◌, ◌≤◌, ◌<◌, get_or, length, arith}
use Rattle.std.proofs.lemmas.Bool.Decides.{nat_tests}
use Rattle.areas.proofs.Apart.{nothing, place_from}
use Rattle.areas.proofs.among.Areas.is_place.Goals as goal
use Rattle.areas.proofs.among.Areas.is_place.Goals.{else-at-gt0-via-then-at-gt0+else-self-at, else-at-gt0-via-else-at-gt0}

pub returns-then-at-self-2 : goal.returns-then-at-self-2
returns-then-at-self-2 c true_is =
    let list = c.args.self.now.list.now in
    let at = c.args.at in
    let low : (i : ℕ) → i + 1 ≡ at → (get_or list i nothing).end < c.args.number = (λ i e. elim c.else-at-gt0.branch [
      | else-at-gt0-via-then-at-gt0+else-self-at w ↦ (let same : at - 1 ≡ i = omega (arith, e) in let less : (get_or list (at - 1) nothing).end < c.args.number = omega (arith, w.if-self-at.false) in rw same at less)
      | else-at-gt0-via-else-at-gt0 w ↦ omega (arith, e, w.if-at-gt0.false)
    ]) in
    let past : at ≡ length list = omega (arith, c.if-at-self-2.true) in
    place_from c.args.self.now.before c.args.number at list c.args.self.now.apart (omega (arith, past)) low (λ l. omega (arith, l, past))

pub returns-else-at-self-2 : goal.returns-else-at-self-2
returns-else-at-self-2 c true_is =
    let list = c.args.self.now.list.now in
    let at = c.args.at in
    let low : (i : ℕ) → i + 1 ≡ at → (get_or list i nothing).end < c.args.number = (λ i e. elim c.else-at-gt0.branch [
      | else-at-gt0-via-then-at-gt0+else-self-at w ↦ (let same : at - 1 ≡ i = omega (arith, e) in let less : (get_or list (at - 1) nothing).end < c.args.number = omega (arith, w.if-self-at.false) in rw same at less)
      | else-at-gt0-via-else-at-gt0 w ↦ omega (arith, e, w.if-at-gt0.false)
    ]) in
    let within : at ≤ length list = omega (arith, c.if-at-self.false) in
    let high : c.args.number ≤ (get_or list at nothing).end = grind (arith, nat_tests, true_is) in
    place_from c.args.self.now.before c.args.number at list c.args.self.now.apart within low (λ l. high)
