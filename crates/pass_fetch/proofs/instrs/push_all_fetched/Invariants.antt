use Rattle.std.proofs.Common.{◌≡◌, ◌++◌, drop}
use Rattle.pass_fetch.specs.Instrs.{fetched_instrs, next_after_instrs}
use Rattle.pass_fetch.proofs.instrs.push_all_fetched.Given as goal

abbrev pub invariant-loop-instr : goal.invariant-loop-instr
invariant-loop-instr l = record {
  instrs : l.all ++ fetched_instrs l.fetches l.after (drop l.instr-index l.instrs) ≡ l.initial.all ++ fetched_instrs l.fetches l.next l.instrs;
  next : next_after_instrs l.fetches l.after (drop l.instr-index l.instrs) ≡ next_after_instrs l.fetches l.next l.instrs;
}
