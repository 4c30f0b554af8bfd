-- Labels to which the resume and destroy edges of suspends lead, in tables by label.
use Rattle.std.proofs.Common.{◌≡◌, ◌⊎◌, inl, inr, ⊎_elim, ℕ, zero, suc, ◌+◌, Bool, true, false, List, [], ◌∷◌, length, refl, sym, ap, ◌∙◌}
use Rattle.std.specs.Prelude.{Some, None, Option, replicate, slice_set, unwrap_or}
use Rattle.pass_copies.specs.Slots.{resumed_at, set_resumed}
use Rattle.pass_copies.specs.Uses.{flag_at}
use Rattle.pass_edges_proof.proofs.ir_laws.facts.Truth.{either}
use Rattle.pass_edges_proof.proofs.ir_laws.facts.Lists.{set_other}
use Rattle.pass_edges_proof.specs.rule_laws.frames.rows.Returns.{return_labels}
use Rattle.pass_edges_proof.specs.flow_solver.Paths.{IsListed}
use Rattle.pass_edges_proof.specs.pass_intrinsics.Shapes.{suspends_of}
use Rattle.pass_edges_proof.specs.pass_intrinsics.declared.shape.SuspendPoint.{SuspendPoint}
use Rattle.ir_model.specs.declared.module.Function.{Function}
use Rattle.pass_edges_proof.specs.pass_cells.Kept.{entry, joined}
use Rattle.pass_edges_proof.specs.pass_cells.Plan.{returns_of, with_returns}
use Rattle.pass_fetch_proof.proofs.cells.rules.Labels.{untold}

-- ---- with the suspend

told_or : (table : List (Option ℕ)) (n : ℕ) (j : Option ℕ) (l : ℕ) → (n ≡ l) ⊎ (entry (slice_set table n j) l ≡ entry table l)
told_or table n j l = ⊎_elim (λ e. inl e) (λ ne. inr (ap joined (set_other table n l j ne))) (either n l)

returned : (table : List (Option ℕ)) (j : ℕ) (ss : List SuspendPoint) (l x : ℕ) → entry (with_returns table j ss) l ≡ Some x → (entry table l ≡ Some x) ⊎ IsListed l (return_labels ss)
returned table j [] l x e = inl e
returned table j (s ∷ ss) l x e = ⊎_elim here (λ r. inr (inr (inr r))) (returned (slice_set (slice_set table s.resume (Some j)) s.destroy (Some j)) (j + 1) ss l x e)
  where
    here : entry (slice_set (slice_set table s.resume (Some j)) s.destroy (Some j)) l ≡ Some x → (entry table l ≡ Some x) ⊎ IsListed l (s.resume ∷ s.destroy ∷ return_labels ss)
    here h =
        ⊎_elim (λ d. inr (inr (inl (sym d))))
        (λ d. ⊎_elim (λ r. inr (inl (sym r))) (λ r. inl (sym r ∙ sym d ∙ h)) (told_or table s.resume (Some j) l))
        (told_or (slice_set table s.resume (Some j)) s.destroy (Some j) l)

pub returned_listed : (count : ℕ) (ss : List SuspendPoint) (l x : ℕ) → entry (returns_of count ss) l ≡ Some x → IsListed l (return_labels ss)
returned_listed count ss l x e =
    ⊎_elim (λ h. let no : None ≡ Some x = sym (untold count l) ∙ h in absurd (cc)) (λ r. r) (returned (replicate count None) 0 ss l x e)

-- ---- with a flag

flagged_or : (flags : List Bool) (n l : ℕ) → (n ≡ l) ⊎ (flag_at (slice_set flags n true) l ≡ flag_at flags l)
flagged_or flags n l = ⊎_elim (λ e. inl e) (λ ne. inr (ap (λ (o : Option Bool). unwrap_or o false) (set_other flags n l true ne))) (either n l)

resumed : (flags : List Bool) (ss : List SuspendPoint) (l : ℕ) → flag_at (set_resumed flags ss) l ≡ true → (flag_at flags l ≡ true) ⊎ IsListed l (return_labels ss)
resumed flags [] l e = inl e
resumed flags (s ∷ ss) l e = ⊎_elim here (λ r. inr (inr (inr r))) (resumed (slice_set (slice_set flags s.resume true) s.destroy true) ss l e)
  where
    here : flag_at (slice_set (slice_set flags s.resume true) s.destroy true) l ≡ true → (flag_at flags l ≡ true) ⊎ IsListed l (s.resume ∷ s.destroy ∷ return_labels ss)
    here h =
        ⊎_elim (λ d. inr (inr (inl (sym d))))
        (λ d. ⊎_elim (λ r. inr (inl (sym r))) (λ r. inl (sym r ∙ sym d ∙ h)) (flagged_or flags s.resume l))
        (flagged_or (slice_set flags s.resume true) s.destroy l)

unflagged : (count v : ℕ) → flag_at (replicate count false) v ≡ false
unflagged zero v = refl
unflagged (suc n) zero = refl
unflagged (suc n) (suc v) = unflagged n v

pub resumed_listed : (f : Function) (l : ℕ) → flag_at (resumed_at f) l ≡ true → IsListed l (return_labels (suspends_of f))
resumed_listed f l e =
    ⊎_elim (λ h. let no : false ≡ true = sym (unflagged (length f.names) l) ∙ h in absurd (cc)) (λ r. r) (resumed (replicate (length f.names) false) (suspends_of f) l e)
