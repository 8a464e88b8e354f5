-- What a certificate says.
use Rattle.std.specs.Prelude.{ℕ, List, Option}
use Rattle.sf_model.specs.declared.paths.Paths.{Paths}
use Rattle.sf_polish.specs.declared.expr.Expr.{Expr}
use Rattle.sf_certificate.specs.declared.cert.Cert.{Cert}
use Rattle.sf_certificate.specs.declared.tag.Tag.{Tag}

-- all that a certificate holds but the proof of its form
pub record Said : Type 0 where
  pub blocks : ℕ
  pub plan : Option Expr
  pub cost : ℕ
  pub bound : ℕ
  pub paths : Paths
  pub tags : List Tag

-- what a certificate says
abbrev pub said_by : Cert → Said
said_by cert = record { blocks = cert.blocks; plan = cert.plan; cost = cert.cost; bound = cert.bound; paths = cert.paths; tags = cert.tags }
