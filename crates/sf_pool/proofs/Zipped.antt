-- Subproblems and bounds, paired one by one.
use Rattle.std.proofs.Common.{◌≡◌, ℕ, List, [], ◌∷◌, map, refl, ap}
use Rattle.sf_pool.proofs.Common.{zip, Parts, Task, tasks}

-- the task of a subproblem and its bound
abbrev pub task_of : Parts × ℕ → Task
task_of p = record { node = p.0; bound = p.1 }

-- pairs of subproblems and bounds are the tasks of both lists
pub zip_tasks : (ns : List Parts) (cs : List ℕ) → map task_of (zip ns cs) ≡ tasks ns cs
zip_tasks [] cs = refl
zip_tasks (n ∷ ns) [] = refl
zip_tasks (n ∷ ns) (c ∷ cs) = ap (λ z. record { node = n; bound = c } ∷ z) (zip_tasks ns cs)
