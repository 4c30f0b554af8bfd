use Rattle.std.proofs.Common.{◌≡◌, ◌∙◌, ap, sym}
use Rattle.run_memory.specs.Memory.{owner_rights}
use Rattle.run_step.specs.Step.{AtTerm, action_of, fetch, term_action}
use Rattle.run_plain.specs.Plain.{plain_context, plain_function, plain_work}
use Rattle.run_plain.specs.PlainEffects.{given_of}
use Rattle.run_plain.proofs.Acting.{fetch-term, performed-done, performed-refused}
use Rattle.run_plain.proofs.stepping.proceed.Goals as goal

pub returns-then-state-len-clause-refused : goal.returns-then-state-len-clause-refused
returns-then-state-len-clause-refused c =
    let g = given_of c.args.program.now in
    let s = c.args.state.now in
    let x = plain_context g s in
    let w = plain_work s in
    let e = fetch-term c.args.function.now s.top.block s.top.at c.in-Some.block.now c.in-Some.ensures c.in-None-get.ensures (c.if-state-len.true ∙ c.len.ensures) in
    performed-refused g s (action_of x w (fetch c.args.function.now s.top.block s.top.at)) (term_action x w c.in-Some.block.now.term) c.terminate-effect.result w c.act.result (ap (action_of x w) e) (c.terminate-effect.ensures.done owner_rights (plain_function g s) s.world) c.act.ensures.refused

pub returns-then-state-len-clause-done : goal.returns-then-state-len-clause-done
returns-then-state-len-clause-done c =
    let g = given_of c.args.program.now in
    let s = c.args.state.now in
    let x = plain_context g s in
    let w = plain_work s in
    let e = fetch-term c.args.function.now s.top.block s.top.at c.in-Some.block.now c.in-Some.ensures c.in-None-get.ensures (c.if-state-len.true ∙ c.len.ensures) in
    performed-done g s (action_of x w (fetch c.args.function.now s.top.block s.top.at)) (term_action x w c.in-Some.block.now.term) c.terminate-effect.result w c.act.result c.act.new.state (ap (action_of x w) e) (c.terminate-effect.ensures.done owner_rights (plain_function g s) s.world) c.act.ensures.done
