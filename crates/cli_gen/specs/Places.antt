-- Where the names of a generated coroutine stand: in the order in which the text has them first.
use Rattle.std.specs.Prelude.{ℕ, Bool, ◌+◌, ◌-◌, ◌*◌, ◌%◌, if◌then◌else◌, ◌==◌}
use Rattle.cli_gen.specs.declared.coroutine.Coroutine.{Coroutine}

-- ---- n, entry, the slots, id; of an even one need, dyn, start, size, m, mem, h; of an odd one size, m, h

abbrev pub is_even : Coroutine → Bool
is_even c = c.number % 2 == 0

abbrev pub parameter : ℕ
parameter = 0

abbrev pub entry_label : ℕ
entry_label = 1

abbrev pub slot : ℕ → ℕ
slot j = j + 2

abbrev pub id_value : Coroutine → ℕ
id_value c = c.suspends + 2

abbrev pub need_value : Coroutine → ℕ
need_value c = c.suspends + 3

abbrev pub dyn_label : Coroutine → ℕ
dyn_label c = c.suspends + 4

abbrev pub start_label : Coroutine → ℕ
start_label c = c.suspends + 5

abbrev pub size_value : Coroutine → ℕ
size_value c = c.suspends + (if is_even c then 6 else 3)

abbrev pub block_value : Coroutine → ℕ
block_value c = c.suspends + (if is_even c then 7 else 4)

abbrev pub memory_value : Coroutine → ℕ
memory_value c = c.suspends + 8

abbrev pub begin_value : Coroutine → ℕ
begin_value c = c.suspends + (if is_even c then 9 else 5)

-- ---- the labels of the generated blocks, in order: b0; q0, end, b1, d0, clean; then for each further j yj, xj, qj, b{j+1}, dj, and never in the place of the last b{j+1}

abbrev pub first_label : Coroutine → ℕ
first_label c = c.suspends + (if is_even c then 10 else 6)

abbrev pub end_label : Coroutine → ℕ
end_label c = first_label c + 2

abbrev pub clean_label : Coroutine → ℕ
clean_label c = first_label c + 5

abbrev pub loaded_value : Coroutine → ℕ → ℕ
loaded_value c j = first_label c + 5 * j + 1

abbrev pub summed_value : Coroutine → ℕ → ℕ
summed_value c j = first_label c + 5 * j + 2

abbrev pub suspend_value : Coroutine → ℕ → ℕ
suspend_value c j = first_label c + 5 * j + (if j == 0 then 1 else 3)

-- the label of b{j+1}, of never for the last j
abbrev pub resume_label : Coroutine → ℕ → ℕ
resume_label c j = first_label c + 5 * j + (if j == 0 then 3 else 4)

abbrev pub destroy_label : Coroutine → ℕ → ℕ
destroy_label c j = first_label c + 5 * j + (if j == 0 then 4 else 5)

abbrev pub suspend_label : Coroutine → ℕ → ℕ
suspend_label c j = if j == 0 then first_label c else resume_label c (j - 1)

abbrev pub never_label : Coroutine → ℕ
never_label c = resume_label c (c.suspends - 1)

-- ---- fm, e

abbrev pub freed_value : Coroutine → ℕ
freed_value c = first_label c + 5 * c.suspends + 1

abbrev pub end_value : Coroutine → ℕ
end_value c = first_label c + 5 * c.suspends + 2
