-- The numbers that are drawn: the sizes of the blocks, and then the ends of the nets.
use Rattle.std.specs.Prelude.{ℕ, ◌+◌, ◌*◌, ◌%◌, nat_lt, List, map, if◌then◌else◌}
use Rattle.std.specs.List.{range_with_len}
use Rattle.sf_gen.specs.declared.drawn.Ends.{Ends}
use Rattle.sf_gen.specs.declared.drawn.Size.{Size}
use Rattle.sf_gen.specs.Words.{word}

-- from 4 to 32
abbrev pub side : ℕ → ℕ
side drawn = 4 + drawn % 29

-- a block takes two words, the first for its width
abbrev pub size_at : ℕ → ℕ → Size
size_at seed i = record { w = side (word seed (2 * i)); h = side (word seed (2 * i + 1)) }

-- the sizes of the blocks
abbrev pub sizes : ℕ → ℕ → List Size
sizes seed n = map (size_at seed) (range_with_len 0 n)

-- twice as many nets as blocks, and none where there is one block
abbrev pub net_count : ℕ → ℕ
net_count n = if nat_lt n 2 then 0 else 2 * n

-- a net takes two words, behind those of the blocks
abbrev pub ends_at : ℕ → ℕ → ℕ → Ends
ends_at seed n j = record { a = word seed (2 * n + 2 * j) % n; b = word seed (2 * n + 2 * j + 1) % n }

-- the ends of the nets
abbrev pub ends : ℕ → ℕ → List Ends
ends seed n = map (ends_at seed n) (range_with_len 0 (net_count n))
