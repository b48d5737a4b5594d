-- The lines of letters of which all numbers can be read back.
use Rattle.std.specs.Prelude.{◌*◌, ◌^◌, ◌<◌}
use Rattle.labels.specs.Labels.{IsLine, LineShape}
use Rattle.dxf.specs.Forms.{form_of}
use Rattle.dxf.specs.declared.forms.Form.{Form}

-- how letters lie in numbers that can be read: fewer than 2^64 millimetres, degrees or times the height
pub record IsSmallForm (form : Form) : Type 0 where
  pub height : form.height < 10000000 * 2 ^ 64
  pub rotation : 1000 * form.rotation < 10000000 * 2 ^ 64
  pub factor : form.factor < 10000000 * 2 ^ 64
  pub leaning : 1000 * form.leaning < 10000000 * 2 ^ 64

-- a line of letters of which the numbers can be read
pub record IsReadable (l : LineShape) : Type 0 where
  pub line : IsLine l
  pub form : IsSmallForm (form_of l)
