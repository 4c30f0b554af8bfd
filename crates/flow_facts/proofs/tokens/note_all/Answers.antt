use Rattle.std.proofs.Common.{ap, ◌∙◌}
use Rattle.std.specs.Prelude.{◌==◌}
use Rattle.std.specs.HashMap.{get}
use Rattle.flow_facts.specs.Tokens.{is_token}
use Rattle.flow_facts.proofs.Heads.{head-more, head-same}
use Rattle.flow_facts.proofs.tokens.note_all.Goals as goal
use Rattle.flow_facts.proofs.tokens.note_all.Goals.{in-None, in-Some+in_ok-note-in-Some}

pub loop-at-preserved : goal.loop-at-preserved
loop-at-preserved c =
    elim c.match-token_of.branch [
      | in-Some+in_ok-note-in-Some w ↦ λ t.
          ap (λ m. get ◌==◌ m t) w.tokens-is
          ∙ head-more t w.in-Some.token c.args.block c.args.instrs.now c.loop-at.at c.index-instrs-at.result (get ◌==◌ c.args.tokens.now t) (get ◌==◌ c.loop-at.tokens t) (get ◌==◌ w.note.new.tokens t) c.loop-at-test.true c.index-instrs-at.is
          (c.token_of.ensures t ∙ ap (is_token t) w.in-Some.is) (c.loop-at.invariant t) (w.in_ok-note-in-Some.ensures t)
      | in-None w ↦ λ t.
          ap (λ m. get ◌==◌ m t) w.tokens-is
          ∙ head-same t c.args.block c.args.instrs.now c.loop-at.at c.index-instrs-at.result (get ◌==◌ c.args.tokens.now t) (get ◌==◌ c.loop-at.tokens t) c.loop-at-test.true c.index-instrs-at.is
          (c.token_of.ensures t ∙ ap (is_token t) w.in-None.is) (c.loop-at.invariant t)
    ]
