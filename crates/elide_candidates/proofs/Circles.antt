-- The last lead of a circle would have been dropped.
use Rattle.std.proofs.Common.{◌≡◌, ℕ, refl, inl, inr, subst}
use Rattle.elide_candidates.specs.Chains.{IsChain, IsChainLeft, LeadsLeft, LeadsTo}
use Rattle.ir_model.specs.declared.module.Module.{Module}

lead : (m : Module) (f g : ℕ) → LeadsLeft m f g → LeadsTo m f g
lead m f g l = record { call = l.call; leads = l.left.leads }

chain : (m : Module) (f g : ℕ) → IsChainLeft m f g → IsChain m f g
chain m f g (IsChainLeft.OneLeft h l) = IsChain.One h (lead m f h l)
chain m f g (IsChainLeft.MoreLeft h k c l) = IsChain.More h k (chain m f h c) (lead m h k l)

-- a lead from g to f, where a chain goes from f to g
no-lead-back : (m : Module) (f g : ℕ) → IsChainLeft m f g → LeadsLeft m g f → ⊥
no-lead-back m f g c l = l.left.kept (inr (chain m f g c))

no-circle-by : (m : Module) (func g : ℕ) → IsChainLeft m func g → g ≡ func → ⊥
no-circle-by m func g (IsChainLeft.OneLeft h l) e = l.left.kept (inl e)
no-circle-by m func g (IsChainLeft.MoreLeft h k c l) e = no-lead-back m func h c (subst (λ (x : ℕ). LeadsLeft m h x) e l)

pub no-circle : (m : Module) (func : ℕ) → IsChainLeft m func func → ⊥
no-circle m func c = no-circle-by m func func c refl
