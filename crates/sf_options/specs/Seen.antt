-- What contracts see of the options in code: each text as its bytes.
use Rattle.std.specs.Prelude.{List, ℕ, Option, option_map}
use Rattle.std.specs.Borrow.{Bor}
use Rattle.sf_options.specs.Options.{Text, Input, gsrc, yal, DesignOptions, WeightOptions, StartOptions, PlanOptions, CheckOptions, ResumeOptions, MeasureOptions, ShapeOptions, GenOptions, Command, plan, check, resume, measure, shape, gen}
use Rattle.sf_options.specs.declared.command.DesignWords.{DesignWords}
use Rattle.sf_options.specs.declared.command.WeightWords.{WeightWords}
use Rattle.sf_options.specs.declared.command.StartWords.{StartWords}
use Rattle.sf_options.specs.declared.command.PlanWords.{PlanWords}
use Rattle.sf_options.specs.declared.command.CheckWords.{CheckWords}
use Rattle.sf_options.specs.declared.command.ResumeWords.{ResumeWords}
use Rattle.sf_options.specs.declared.command.MeasureWords.{MeasureWords}
use Rattle.sf_options.specs.declared.command.ShapeWords.{ShapeWords}
use Rattle.sf_options.specs.declared.command.GenWords.{GenWords}
use Rattle.sf_options.specs.declared.command.CommandWords.{CommandWords}
use Rattle.sf_options.specs.declared.command.CommandWords.TheVariants.{Plan, Check, Resume, Measure, Shape, Gen}
use Rattle.sf_options.specs.declared.command.InputFiles.{InputFiles}
use Rattle.sf_options.specs.declared.command.InputFiles.TheVariants.{Gsrc, Yal}

-- a text that may be there
abbrev pub text_of : Option (Bor (List ℕ)) → Option Text
text_of = option_map (λ s. s.now)

-- the files that tell a design
abbrev pub input_seen : InputFiles → Input
input_seen (Gsrc blocks nets pl) = gsrc blocks.now (text_of nets) (text_of pl)
input_seen (Yal file) = yal file.now

-- the options of a design
abbrev pub design_seen : DesignWords → DesignOptions
design_seen o = record { input = input_seen o.input; per_unit = o.scale.per_unit; is_fixed = o.is_fixed; shapes = o.shapes; width = o.width; height = o.height }

-- the options of the weights
abbrev pub weights_seen : WeightWords → WeightOptions
weights_seen o = record { area = o.area; wire = o.wire; net_weights = text_of o.net_weights }

-- the options of the walks
abbrev pub starts_seen : StartWords → StartOptions
starts_seen o = record { count = o.count; moves = o.moves; seed = o.seed; improve = o.improve }

-- the options of `plan`
abbrev pub plan_seen : PlanWords → PlanOptions
plan_seen o = record { design = design_seen o.design; weights = weights_seen o.weights; cert = o.cert.now; pl_out = text_of o.pl_out; workers = o.workers; nodes = o.nodes; is_long = o.is_long; starts = starts_seen o.starts; begin = text_of o.begin; bounds = o.bounds }

-- the options of `check`
abbrev pub check_seen : CheckWords → CheckOptions
check_seen o = record { design = design_seen o.design; weights = weights_seen o.weights; cert = o.cert.now; rewrite = text_of o.rewrite; is_long = o.is_long; bounds = o.bounds }

-- the options of `resume`
abbrev pub resume_seen : ResumeWords → ResumeOptions
resume_seen o = record { design = design_seen o.design; weights = weights_seen o.weights; cert = o.cert.now; cert_out = o.cert_out.now; pl_out = text_of o.pl_out; workers = o.workers; nodes = o.nodes; is_long = o.is_long; bounds = o.bounds }

-- the options of `measure`
abbrev pub measure_seen : MeasureWords → MeasureOptions
measure_seen o = record { design = design_seen o.design; weights = weights_seen o.weights; placed = o.placed.now }

-- the options of `shape`
abbrev pub shape_seen : ShapeWords → ShapeOptions
shape_seen o = record { design = design_seen o.design; expr = o.expr.now }

-- the options of `gen`
abbrev pub gen_seen : GenWords → GenOptions
gen_seen o = record { seed = o.seed; count = o.count; kinds = o.kinds; nodes = o.nodes; out = o.out.now }

-- the command
abbrev pub command_seen : CommandWords → Command
command_seen (Plan o) = plan (plan_seen o)
command_seen (Check o) = check (check_seen o)
command_seen (Resume o) = resume (resume_seen o)
command_seen (Measure o) = measure (measure_seen o)
command_seen (Shape o) = shape (shape_seen o)
command_seen (Gen o) = gen (gen_seen o)
