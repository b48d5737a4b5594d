use Rattle.std.proofs.Common.{rules, ◌≡◌, ◌<◌, ◌∙◌, ap, subst, sym, length, take, ℕ, List, Result, Err, arith}
use Rattle.std.proofs.lemmas.List.{length-take-le}
use Rattle.picture_job.specs.declared.job.Job.{Job}
use Rattle.conversion.specs.Conversions.{Converts, IsCutShort}
use Rattle.rows.specs.Pictures.{Reach}
use Rattle.conversion.specs.Pictures.{picture}
use Rattle.conversion.specs.Rules.{core_rules, picture_by}
use Rattle.conversion.proofs.CorePictures.{core_picture}
use Rattle.conversion.specs.declared.done.Done.{Done}
use Rattle.conversion.specs.declared.fault.Fault.{Fault}
use Rattle.conversion.specs.declared.fault.Fault.TheVariants.{Write}
use Rattle.devices.specs.Sinks.{SinkState}
use Rattle.devices.specs.Sources.{SourceState}
use Rattle.library_examples.proofs.previews.preview_picture.Goals as goal

cut_short : (job : Job) (reaches : Reach) (input : List ℕ) (before after : SourceState) (sink sink' : SinkState) (answer : Result Done Fault) (fault : Fault) (row whole bytes : ℕ)
    → answer ≡ Err fault → fault ≡ Write row whole bytes → Converts core_rules 1 job reaches input before after sink sink' answer
    → IsCutShort core_rules 1 job reaches input before after sink sink' row whole bytes
cut_short job reaches input before after sink sink' answer fault row whole bytes is so h =
    subst (λ (a : Result Done Fault). Converts core_rules 1 job reaches input before after sink sink' a) (is ∙ ap Err so) h

-- the first bytes of a picture that has more
beginning : (items picture : List ℕ) (bytes : ℕ) → items ≡ take bytes picture → bytes < length picture → (length items < length picture) × (items ≡ take (length items) picture)
beginning items picture bytes is within =
    let n : length items ≡ bytes = ap length is ∙ length-take-le bytes picture (omega (arith, within)) in
    (omega (arith, n, within), is ∙ ap (λ (k : ℕ). take k picture) (sym n))

pub returns-in-Err-Write-clause-preview : goal.returns-in-Err-Write-clause-preview
returns-in-Err-Write-clause-preview g c =
    let run = c.convert-answer.ensures.converts in
    let cut = cut_short c.args.job.now (g.G.Gauge.reaches c.args.gauge.now) run.input _ _ _ _ c.convert-answer.result _ _ _ _
    c.in-Err-Write.is (rw c.in-Err-Write.is at c.in-Err-Write.field-0-is) run.converts in
    let bytes = c.in-Err-Write.field-0-2 in
    let reaches : Reach = g.G.Gauge.reaches c.args.gauge.now in
    let read = cut.read in
    let written = cut.written in
    let by_rules = picture_by core_rules 1 c.args.job.now reaches run.input in
    let same : run.input ≡ c.args.plot.now = search rules in
    let kept : c.convert-answer.new.sink.bytes.items ≡ take bytes by_rules = search rules in
    let within : bytes < length by_rules = cut.within in
    rw same at (subst (λ (p : List ℕ). (length c.convert-answer.new.sink.bytes.items < length p) × (c.convert-answer.new.sink.bytes.items ≡ take (length c.convert-answer.new.sink.bytes.items) p))
    (core_picture c.args.job.now reaches run.input) (beginning c.convert-answer.new.sink.bytes.items by_rules bytes kept within))

pub returns-in-Ok-clause-preview : goal.returns-in-Ok-clause-preview
returns-in-Ok-clause-preview g c =
    let run = c.in-Ok.ensures.converts in
    let whole = run.converts in
    let written = whole.written in
    let reaches : Reach = g.G.Gauge.reaches c.args.gauge.now in
    let same : run.input ≡ c.args.plot.now = search rules in
    let kept : c.convert-answer.new.sink.bytes.items ≡ picture_by core_rules 1 c.args.job.now reaches run.input = search rules in
    rw same at (kept ∙ core_picture c.args.job.now reaches run.input)
