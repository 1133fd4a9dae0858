-- A register that counts to 4,294,967,295 and then from 0.
use Rattle.std.specs.Prelude.{ℕ, ◌+◌, ◌-◌, ◌%◌, ◌^◌}

-- End less start, the count carried past the top where it rolled over: the difference modulo 2^32.
abbrev pub advance : ℕ → ℕ → ℕ
advance start end = (end + 2 ^ 32 - start) % 2 ^ 32
