-- What contracts see of the words that were read: each text as its bytes.
use Rattle.sf_jobs.specs.declared.fields.Fields.{Fields}
use Rattle.sf_jobs.specs.declared.words.TeamWords.{TeamWords}
use Rattle.sf_jobs.specs.declared.told.Answer.{Answer}
use Rattle.sf_jobs.specs.Job.{Job}
use Rattle.sf_jobs.specs.Team.{TeamOptions}
use Rattle.sf_jobs.specs.Told.{Told}

-- the words of a line
abbrev pub job_of : Fields → Job
job_of f = record { blocks = f.blocks.now; nets = f.nets.now; pl = f.pl.now; wire = f.wire.now; nodes = f.nodes.now }

-- the words of the batch program
abbrev pub team_seen : TeamWords → TeamOptions
team_seen w = record { jobs = w.jobs.now; team = w.team }

-- what a job came to
abbrev pub told_seen : Answer → Told
told_seen t = record { status = t.status; text = t.text.items }
