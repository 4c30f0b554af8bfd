-- The first two of the three passes of which the first one is made: begin's value named, and uses of coro.frame renamed.
use Rattle.std.specs.Prelude.{map, if◌then◌else◌}
use Rattle.pass_early.specs.BeginName.{with_begin_name}
use Rattle.pass_early.specs.Early.{renaming_of}
use Rattle.pass_early.specs.Renaming.{renamed_instr, renamed_phi, renamed_term}
use Rattle.pass_early.specs.declared.renaming.Renaming.{Renaming}
use Rattle.ir_model.specs.declared.module.Block.{Block}
use Rattle.ir_model.specs.declared.module.Function.{Function}
use Rattle.ir_model.specs.declared.module.Module.{Module}
use Rattle.rule_laws.specs.ir_laws.facts.renamed.Passes.{with_functions}

-- a coroutine changed, and any other function as it is
abbrev pub if_coroutine : (Function → Function) → Function → Function
if_coroutine change f = if f.coroutine then change f else f

-- ---- begin's value gets a name

abbrev pub named_function : Function → Function
named_function f = if_coroutine with_begin_name f

abbrev pub named_module : Module → Module
named_module m = with_functions named_function m

-- ---- uses of coro.frame become uses of begin's value

abbrev pub renamed_block : Renaming → Block → Block
renamed_block r b =
    record { label = b.label; phis = map (renamed_phi r) b.phis; instrs = map (renamed_instr r) b.instrs; term = renamed_term r b.term }

abbrev pub renamed_coroutine : Renaming → Function → Function
renamed_coroutine r f = record f { blocks = map (renamed_block r) f.blocks }

abbrev pub renamed_by_its_own : Function → Function
renamed_by_its_own f = renamed_coroutine (renaming_of f) f

abbrev pub renamed_function : Function → Function
renamed_function f = if_coroutine renamed_by_its_own f

abbrev pub renamed_module : Module → Module
renamed_module m = with_functions renamed_function m
