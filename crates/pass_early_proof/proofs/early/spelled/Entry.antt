-- Lemmas on entry.
use Rattle.std.proofs.Common.{◌≡◌, List, [], ◌∷◌, refl, sym, subst}
use Rattle.std.specs.Prelude.{map}
use Rattle.pass_early.specs.Early.{early_function}
use Rattle.pass_early.specs.Renaming.{renamed_incoming, renamed_phi}
use Rattle.pass_early_proof.proofs.early.local_rules.Turned.{Any, NoBlock, OneMore, TurnsBlocks, turned_function}
use Rattle.pass_early.specs.declared.renaming.Renaming.{Renaming}
use Rattle.ir_model.specs.declared.instr.Incoming.{Incoming}
use Rattle.ir_model.specs.declared.instr.Phi.{Phi}
use Rattle.ir_model.specs.declared.module.Block.{Block}
use Rattle.ir_model.specs.declared.module.Function.{Function}
use Rattle.rule_laws.specs.ir_laws.facts.spelled.Filled.{HasFilledPhis, IsFilled}
use Rattle.rule_laws.specs.run_laws.changed.Changed.{Each}

-- ---- the passes

renamed_filled : (r : Renaming) (ps : List Phi) → Each IsFilled ps → Each IsFilled (map (renamed_phi r) ps)
renamed_filled r [] h = tt
renamed_filled r (p ∷ ps) h = (on p.incoming h.0, renamed_filled r ps h.1)
  where
    on : (is : List Incoming) → (is ≡ [] → ⊥) → map (renamed_incoming r) is ≡ [] → ⊥
    on [] n e = n refl
    on (i ∷ is) n e = absurd (cc)

turned_filled : (r : Renaming) (bs cs : List Block) → TurnsBlocks r Any bs cs → Each (λ b. Each IsFilled b.phis) bs → Each (λ b. Each IsFilled b.phis) cs
turned_filled r _ _ NoBlock h = tt
turned_filled r _ _ (OneMore b c bs cs t rest) h = (subst (Each IsFilled) (sym t.phis) (renamed_filled r b.phis h.0), turned_filled r bs cs rest h.1)

turned_block_left : (r : Renaming) (bs cs : List Block) → TurnsBlocks r Any bs cs → (bs ≡ [] → ⊥) → cs ≡ [] → ⊥
turned_block_left r _ _ NoBlock n e = n refl
turned_block_left r _ _ (OneMore b c bs cs t rest) n e = absurd (cc)

pub early_filled : (f : Function) → HasFilledPhis f → HasFilledPhis (early_function f)
early_filled f h =
    let t = turned_function f in
    record { block = turned_block_left t.renaming f.blocks (early_function f).blocks t.blocks h.block; phis = turned_filled t.renaming f.blocks (early_function f).blocks t.blocks h.phis }
