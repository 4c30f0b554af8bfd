-- The pass itself: the slots are those that are used before begin.
use Rattle.std.proofs.Common.{ℕ, Bool, List, length}
use Rattle.pass_copies.specs.BeginCopies.{with_begin_copies}
use Rattle.pass_copies.specs.Slots.{entry_instrs}
use Rattle.pass_copies.specs.Uses.{used_before}
use Rattle.pass_fetch_proof.proofs.copies.rules.Copied.{copies_woven}
use Rattle.pass_fetch_proof.proofs.copies.rules.Slots.{from_allocas, numbered}
use Rattle.pass_fetch_proof.specs.copies.rules.Copies.{CopiesFit, copied_slots, copy_weaving}
use Rattle.pass_edges_proof.specs.rule_laws.rules.function_rules.Kept.{KeepsFunctionRules}
use Rattle.ir_model.specs.declared.module.Function.{Function}
use Rattle.ir_model.specs.declared.module.Module.{Module}
use Rattle.pass_edges_proof.proofs.rule_laws.rules.woven_rules.All.{rules_woven}
use Rattle.pass_edges_proof.specs.rule_laws.rules.woven_rules.Blocks.{IsWoven}
use Rattle.pass_edges_proof.specs.rule_laws.rules.woven_rules.Pairs.{AreIncomingOnce}

pub with_copies_woven : (m : Module) (k : ℕ) (f : Function) (slots before : List Bool) (sizes : List ℕ) → KeepsFunctionRules m k f → CopiesFit f (copied_slots f slots before sizes) → IsWoven (copy_weaving f before (copied_slots f slots before sizes)) m f (with_begin_copies f slots before sizes)
with_copies_woven m k f slots before sizes keeps fit =
    let used : List Bool = used_before f slots before in
    copies_woven m k f before (copied_slots f slots before sizes) (numbered used sizes (length f.names) (entry_instrs f.blocks)) (from_allocas used sizes (length f.names) (entry_instrs f.blocks) (entry_instrs f.blocks) (λ j l. l)) keeps fit

pub with_copies_keeps : (m : Module) (k : ℕ) (f : Function) (slots before : List Bool) (sizes : List ℕ) → KeepsFunctionRules m k f → AreIncomingOnce f → CopiesFit f (copied_slots f slots before sizes) → KeepsFunctionRules m k (with_begin_copies f slots before sizes)
with_copies_keeps m k f slots before sizes keeps once fit =
    rules_woven (copy_weaving f before (copied_slots f slots before sizes)) m k f (with_begin_copies f slots before sizes) (with_copies_woven m k f slots before sizes keeps fit) keeps once
