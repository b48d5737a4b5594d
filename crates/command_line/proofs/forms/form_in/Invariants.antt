use Rattle.std.proofs.Common.{◌≡◌, drop, map}
use Rattle.command_line.specs.Forms.{form_in}
use Rattle.command_line.proofs.forms.form_in.Given as goal

-- the rows that are left decide
abbrev pub invariant-loop-form : goal.invariant-loop-form
invariant-loop-form l = form_in (map (λ row. (row.0.now, row.1)) (drop l.form-index l.rows)) l.name ≡ form_in (map (λ row. (row.0.now, row.1)) l.rows) l.name
