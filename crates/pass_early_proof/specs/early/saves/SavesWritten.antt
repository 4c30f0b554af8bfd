-- The pass that writes the saves of suspends out, which is one part of `early_lower`.
use Rattle.std.specs.Prelude.{ℕ, Bool, List, [], length, map, ◌+◌, ◌-◌, ◌&&◌, ◌∷◌, ◌++◌, if◌then◌else◌}
use Rattle.pass_early.specs.Early.{is_unsaved, save_call, save_names, saved}
use Rattle.ir_model.specs.declared.instr.Instr.{Instr}
use Rattle.ir_model.specs.declared.module.Block.{Block}
use Rattle.ir_model.specs.declared.module.Function.{Function}
use Rattle.ir_model.specs.declared.module.Module.{Module}
use Rattle.rule_laws.specs.ir_laws.facts.expanded.Expansion.{expanded, number_behind}

-- a suspend of a coroutine whose save isn't written
abbrev pub is_bare : Bool → Instr → Bool
is_bare coroutine i = coroutine && is_unsaved i

-- such a suspend gets a save of the name n right before it; any other instruction stands alone
abbrev pub with_save : Bool → ℕ → Instr → List Instr
with_save coroutine n i = if is_bare coroutine i then save_call n ∷ saved n i ∷ [] else i ∷ []

-- the name of the next save
abbrev pub behind_save : Bool → ℕ → Instr → ℕ
behind_save coroutine n i = if is_bare coroutine i then n + 1 else n

abbrev pub with_saves : Bool → ℕ → List Instr → List Instr
with_saves coroutine n is = expanded (with_save coroutine) (behind_save coroutine) n is

abbrev pub behind_saves : Bool → ℕ → List Instr → ℕ
behind_saves coroutine n is = number_behind (with_save coroutine) (behind_save coroutine) n is

abbrev pub saved_block : Bool → ℕ → Block → Block
saved_block coroutine n b = record { label = b.label; phis = b.phis; instrs = with_saves coroutine n b.instrs; term = b.term }

abbrev pub saved_blocks : Bool → ℕ → List Block → List Block
saved_blocks coroutine n [] = []
saved_blocks coroutine n (b ∷ bs) = saved_block coroutine n b ∷ saved_blocks coroutine (behind_saves coroutine n b.instrs) bs

abbrev pub behind_blocks : Bool → ℕ → List Block → ℕ
behind_blocks coroutine n [] = n
behind_blocks coroutine n (b ∷ bs) = behind_blocks coroutine (behind_saves coroutine n b.instrs) bs

-- how many saves are written in a function
abbrev pub save_count : Function → ℕ
save_count f = behind_blocks f.coroutine (length f.names) f.blocks - length f.names

-- the saves of a coroutine, with new names at the end of its table
abbrev pub saved_function : Function → Function
saved_function f =
    record {
      name = f.name;
      result = f.result;
      params = f.params;
      coroutine = f.coroutine;
      blocks = saved_blocks f.coroutine (length f.names) f.blocks;
      names = f.names ++ save_names (save_count f);
    }

abbrev pub saves_written : Module → Module
saves_written m = record { types = m.types; globals = m.globals; declarations = m.declarations; functions = map saved_function m.functions }
