-- Which names of allocas of an accepted source lead to coroutine slots, and which to slots that stay with the
-- activation
-- that has executed them.
use Rattle.std.specs.Prelude.{ℕ, Bool, not, ◌&&◌, ◌||◌}
use Rattle.compiler_theorem.specs.theorem.Anew.{Anew}
use Rattle.compiler_theorem.specs.theorem.Between.{renewing}
use Rattle.compiler_theorem.specs.theorem.Entries.{Run}
use Rattle.compiler_theorem.specs.theorem.Lowered.{Lowered, early, edged}
use Rattle.compiler.specs.ir_model.Names.{function_at}
use Rattle.compiler.specs.ir_paths.Slots.{allocas_of, has_name}
use Rattle.compiler.specs.run_source_tables.Given.{facts_at}

-- a ramp slot, or one that is made anew: none of an instance's
abbrev pub stays_own : Lowered → Anew → Run → (func v : ℕ) → Bool
stays_own l a r func v = has_name (facts_at (renewing l a r).given.facts func).ramp_slots v

abbrev pub is_slot_of : Lowered → (func v : ℕ) → Bool
is_slot_of l func v = has_name (allocas_of (function_at (edged l) func)) v

-- a slot that goes to the instance at begin
abbrev pub counts : Lowered → Anew → Run → (func v : ℕ) → Bool
counts l a r func v = is_slot_of l func v && not (stays_own l a r func v)

-- a slot that does not, or of a function that is no coroutine
abbrev pub own : Lowered → Anew → Run → (func v : ℕ) → Bool
own l a r func v =
    is_slot_of l func v && (not (function_at (early l) func).coroutine || stays_own l a r func v)
