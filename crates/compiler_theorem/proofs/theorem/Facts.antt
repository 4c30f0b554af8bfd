-- What holds of each accepted source beside the rows: layouts are good, frames hold what takes bytes, and
-- slots that live at once conflict.
use Rattle.std.proofs.Common.{◌≡◌, ℕ, None, Ok, Some, subst, sym}
use Rattle.std.specs.Prelude.{slice_get}
use Rattle.compiler.proofs.fit.Bytes.{fields_take}
use Rattle.compiler.proofs.fit.Fields.{fields_fit}
use Rattle.compiler_theorem.specs.parts.Framed.{TakeBytes}
use Rattle.compiler_theorem.specs.theorem.Entries.{Run}
use Rattle.compiler_theorem.specs.theorem.GoodLayouts.{AreGoodLayouts}
use Rattle.compiler_theorem.specs.theorem.Lowered.{IsAccepted, IsLowered, Lowered, early, sizes_of, source_run}
use Rattle.compiler.proofs.frame_good.Frames.{layouts_good}
use Rattle.compiler.specs.frame_good.Frames.{HasFitFields}
use Rattle.compiler.specs.ir_model.declared.module.Function.{Function}
use Rattle.compiler.specs.pass_early.Early.{early_function}
use Rattle.compiler.proofs.pass_proofs.early.path_rules.RenamedOperands.{map_was}
use Rattle.compiler.proofs.pass_proofs.early.sources.Laid.{accepted_laid}
use Rattle.compiler.proofs.pass_proofs.early.widths.Widths.{early_widths}
use Rattle.compiler.proofs.pass_proofs.kept.sources.Modules.{early_rules}
use Rattle.compiler.proofs.rule_laws.rules.widths.Written.{text_wide}
use Rattle.compiler.specs.rule_laws.rules.counted.Widths.{first_other_width}
use Rattle.run_accepted.proofs.Accepted.{apart}
use Rattle.compiler.specs.run_agreement.Machines.{state_at}
use Rattle.pass_frames_meaning.specs.run_hooks.alive.Apart.{LiveAreApart}

-- ---- layouts

early_width : (l : Lowered) → IsAccepted l → (k : ℕ) (f : Function) → slice_get (early l).functions k ≡ Some f
    → first_other_width k f ≡ None
early_width l a k f e =
    let x = map_was early_function l.source.functions k f e in
    subst (λ (g : Function). first_other_width k g ≡ None) (sym x.1.1)
    (early_widths k x.0 (text_wide l.text l.source a.stands k x.0 x.1.0))

pub fit_fields : (l : Lowered) → IsLowered l → (k : ℕ) (f : Function) → slice_get (early l).functions k ≡ Some f
    → HasFitFields (early l) f
fit_fields l low k f there =
    let rules = early_rules l.text l.source low.source.stands low.source.accepted k f there in
    fields_fit (early l) k f (early_width l low.source k f there) rules.local.extents rules.definitions

pub good_layouts : (l : Lowered) → IsLowered l → AreGoodLayouts (early l) l.layouts.coroutines
good_layouts l low = layouts_good (early l) l.share l.layouts (λ k f there is. fit_fields l low k f there)
    ((accepted_laid l.text l.source low.source.stands low.source.accepted l.share (Ok l.layouts)).0 low.laid)

-- what its coroutines' frames hold takes bytes
pub take_bytes : (l : Lowered) → IsAccepted l → TakeBytes (early l)
take_bytes l a k f there coroutine c are i x e opens =
    fields_take (early l) k f (early_rules l.text l.source a.stands a.accepted k f there) (early_width l a k f there)
    c are i x e

-- ---- live slots

pub live_apart : (l : Lowered) → IsAccepted l → (r : Run) (n : ℕ)
    → LiveAreApart l.source (state_at (source_run l r) n)
live_apart l a r n = apart l.text l.source a.stands a.accepted (sizes_of l) r.answers r.entry r.args n
