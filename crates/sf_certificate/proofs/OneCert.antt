-- A certificate is known by what it says: the proof of its form adds nothing.
use Rattle.std.proofs.Common.{◌≡◌, ℕ, List, Option, ap, subst}
use Rattle.std.proofs.Props.{props}
use Rattle.sf_certificate.proofs.Common.{Expr, Cert, Paths, Tag, IsFormed, Said, said_by}

-- what is said has the form of a certificate
abbrev Formed : Said → Type 0
Formed s = IsFormed s.blocks s.plan s.cost s.tags

-- the certificate of what is said
abbrev cert-of : (s : Said) → Formed s → Cert
cert-of s form = record { blocks = s.blocks; plan = s.plan; cost = s.cost; bound = s.bound; paths = s.paths; tags = s.tags; form = form }

-- there is one proof of the form
one-form : (s : Said) (f g : Formed s) → f ≡ g
one-form s = let one : IsProp (Formed s) = hlevel props in one

-- the same said gives the same certificate
same-said : (s t : Said) → s ≡ t → (f : Formed s) (g : Formed t) → cert-of s f ≡ cert-of t g
same-said s t e f = subst (λ v. (g : Formed v) → cert-of s f ≡ cert-of v g) e (λ g. ap (cert-of s) (one-form s f g))

-- the same fields are the same said
same-parts : (b c : ℕ) (p q : Option Expr) (y z : ℕ) (k l : ℕ) (v w : Paths) (ts us : List Tag) → b ≡ c → p ≡ q → y ≡ z → k ≡ l → v ≡ w → ts ≡ us
    → ◌≡◌ {A = Said} (record { blocks = b; plan = p; cost = y; bound = k; paths = v; tags = ts }) (record { blocks = c; plan = q; cost = z; bound = l; paths = w; tags = us })
same-parts b c p q y z k l v w ts us e1 e2 e3 e4 e5 e6 = cc

-- certificates with the same fields are the same
pub same-cert : (c d : Cert) → c.blocks ≡ d.blocks → c.plan ≡ d.plan → c.cost ≡ d.cost → c.bound ≡ d.bound → c.paths ≡ d.paths → c.tags ≡ d.tags → c ≡ d
same-cert c d blocks plan cost bound paths tags =
    same-said (said_by c) (said_by d)
    (same-parts c.blocks d.blocks c.plan d.plan c.cost d.cost c.bound d.bound c.paths d.paths c.tags d.tags blocks plan cost bound paths tags) c.form d.form
