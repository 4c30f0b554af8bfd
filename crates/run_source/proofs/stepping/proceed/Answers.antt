use Rattle.std.proofs.Common.{◌≡◌, ◌∙◌, ap, sym, [], None}
use Rattle.run_memory.specs.Memory.{owner_rights}
use Rattle.run_source_tables.specs.run_step.Step.{AtTerm, action_of, fetch, term_action}
use Rattle.run_source.specs.Source.{context_of}
use Rattle.run_source.specs.State.{function_of, work_of}
use Rattle.run_source.specs.SourceEffects.{given_of}
use Rattle.run_source.proofs.OfCalls.{of-term}
use Rattle.run_source.proofs.Acting.{fetch-term, performed-done, performed-refused}
use Rattle.run_source.proofs.stepping.proceed.Goals as goal

pub returns-then-state-len-clause-refused : goal.returns-then-state-len-clause-refused
returns-then-state-len-clause-refused c =
    let g = given_of c.args.given.now in
    let s = c.args.state.now in
    let x = context_of g s in
    let w = work_of s in
    let e = fetch-term c.args.function.now s.top.block s.top.at c.in-Some.block.now c.in-Some.ensures c.in-None-get.ensures (c.if-state-len.true ∙ c.len.ensures) in
    performed-refused g s [] None (action_of x w (fetch c.args.function.now s.top.block s.top.at)) (term_action x w c.in-Some.block.now.term) c.terminate-effect.result w c.act.result (ap (action_of x w) e) (of-term x w c.in-Some.block.now.term) (c.terminate-effect.ensures.done owner_rights (function_of g s) s.world) c.act.ensures.refused

pub returns-then-state-len-clause-done : goal.returns-then-state-len-clause-done
returns-then-state-len-clause-done c =
    let g = given_of c.args.given.now in
    let s = c.args.state.now in
    let x = context_of g s in
    let w = work_of s in
    let e = fetch-term c.args.function.now s.top.block s.top.at c.in-Some.block.now c.in-Some.ensures c.in-None-get.ensures (c.if-state-len.true ∙ c.len.ensures) in
    performed-done g s [] None (action_of x w (fetch c.args.function.now s.top.block s.top.at)) (term_action x w c.in-Some.block.now.term) c.terminate-effect.result w c.act.result c.act.new.state (ap (action_of x w) e) (of-term x w c.in-Some.block.now.term) (c.terminate-effect.ensures.done owner_rights (function_of g s) s.world) c.act.ensures.done
