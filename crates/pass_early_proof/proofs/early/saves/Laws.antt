-- What writing saves out leaves as it is of a function's paths, windows and slots.
use Rattle.std.proofs.Common.{◌≡◌, ◌⊎◌, inl, inr, List, sym, subst, ◌↔◌}
use Rattle.std.specs.Prelude.{filter}
use Rattle.ir_model.specs.declared.module.Function.{Function}
use Rattle.rule_laws.specs.ir_paths.Paths.{Leads}
use Rattle.rule_laws.specs.ir_paths.Windows.{leaves, windows_of}
use Rattle.rule_laws.specs.ir_paths.declared.point.Point.{Point}
use Rattle.pass_early_proof.proofs.early.saves.Apart.{front_back, front_front}
use Rattle.pass_early_proof.proofs.early.saves.Left.{left_moved}
use Rattle.pass_early_proof.proofs.early.saves.Saves.{are_moved}
use Rattle.rule_laws.proofs.ir_laws.paths.expanded.Strands.{IsLedTo, leads_forth, leads_home}
use Rattle.pass_early_proof.proofs.early.saves.Ways.{strands}
use Rattle.rule_laws.specs.ir_laws.paths.expanded.Avoided.{AreAvoided}
use Rattle.pass_early_proof.specs.early.saves.Moved.{AreAllMoved}
use Rattle.pass_early_proof.specs.early.saves.SavesWritten.{saved_function}
use Rattle.pass_early_proof.specs.early.saves.Spots.{back_of, front_of}
use Rattle.rule_laws.specs.ir_laws.paths.expanded.Tokens.{HasNamedTokens}

pub paths_kept : (f : Function) (avoided besides : List Point) (p q : Point) → AreAvoided (front_of f) (back_of f) avoided besides → Leads f avoided p q ↔ Leads (saved_function f) besides (back_of f p) (front_of f q)
paths_kept f avoided besides p q both = (
  leads_forth f (saved_function f) (front_of f) (back_of f) (strands f) avoided besides both p q,
  (λ l. home (leads_home f (saved_function f) (front_of f) (back_of f) (strands f) avoided besides both p (front_of f q) l)),
)
  where
    home : IsLedTo f (saved_function f) (front_of f) (back_of f) (strands f) avoided besides both p (front_of f q) → Leads f avoided p q
    home l = subst (λ (x : Point). Leads f avoided p x) (on l.is) l.leads
      where
        on : (front_of f q ≡ front_of f l.point) ⊎ (front_of f q ≡ back_of f l.point) → l.point ≡ q
        on (inl e) = front_front f l.point q (sym e)
        on (inr e) = sym (front_back f q l.point e)

pub left_kept : (f : Function) (p q : Point) → HasNamedTokens f → AreAllMoved f (filter (leaves p q) (windows_of f)) (filter (leaves (front_of f p) (front_of f q)) (windows_of (saved_function f)))
left_kept f p q named = left_moved f p q (windows_of (saved_function f)) (windows_of f) (are_moved f named)
