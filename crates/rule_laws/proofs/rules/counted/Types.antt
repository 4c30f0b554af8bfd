-- The types of what is kept in cells: integers of the widths that types are written with, and addresses.
use Rattle.std.proofs.Common.{◌≡◌, ◌⊎◌, ⊎_elim, ℕ, Bool, true, false, refl, sym, subst}
use Rattle.std.specs.Prelude.{Some, nat_lt, ◌==◌, ◌||◌}
use Rattle.ir_laws.specs.facts.counted.Widths.{has_width, is_width}
use Rattle.ir_laws.proofs.facts.Truth.{equal_numbers, itself}
use Rattle.ir_laws.specs.ir_model.Layout.{size_of}
use Rattle.ir_laws.specs.ir_model.Ty.{Ty, int, ptr}
use Rattle.ir_laws.specs.ir_model.declared.module.Module.{Module}
use Rattle.rule_locals.specs.Extents.{is_sized, most_of_alloca}
use Rattle.rule_names.specs.Known.{knows_type}
use Rattle.rule_types.specs.Depth.{is_shallow}
use Rattle.rule_values.specs.Fits.{fits_kind, is_scalar, is_tokenless}
use Rattle.rule_values.specs.Kinds.{kind_of}
use Rattle.ir_laws.proofs.facts.names_apart.Words.{either as either_true}
use Rattle.rule_names.specs.declared.stage.Stage.{Stage}

abbrev pub is_cell_type : Ty → Bool
is_cell_type (int w) = is_width w
is_cell_type ptr = true
is_cell_type _ = false

module _ (P : ℕ → Type 0) where
  at_width : (w n : ℕ) → P n → (w == n) ≡ true → P w
  at_width w n h e = subst P (sym (equal_numbers w n e)) h

  pub width_cases : P 1 → P 8 → P 16 → P 32 → P 64 → (w : ℕ) → is_width w ≡ true → P w
  width_cases a b c d e w h =
      ⊎_elim (at_width w 1 a)
      (λ h1. ⊎_elim (at_width w 8 b)
      (λ h2. ⊎_elim (at_width w 16 c) (λ h3. ⊎_elim (at_width w 32 d) (at_width w 64 e) (either_true (w == 32) (w == 64) h3)) (either_true (w == 16) ((w == 32) || (w == 64)) h2))
      (either_true (w == 8) ((w == 16) || ((w == 32) || (w == 64))) h1))
      (either_true (w == 1) ((w == 8) || ((w == 16) || ((w == 32) || (w == 64)))) h)

pub cell_sized : (stage : Stage) (m : Module) (t : Ty) → is_cell_type t ≡ true
    → is_sized (most_of_alloca stage) (size_of m t) ≡ true
cell_sized Stage.Source m (int w) h =
    width_cases (λ n. is_sized 1048576 (size_of m (int n)) ≡ true) refl refl refl refl refl w h
cell_sized Stage.Source m ptr h = refl
cell_sized Stage.Source m _ h = absurd (cc)
cell_sized Stage.Plain m (int w) h =
    width_cases (λ n. is_sized 16777216 (size_of m (int n)) ≡ true) refl refl refl refl refl w h
cell_sized Stage.Plain m ptr h = refl
cell_sized Stage.Plain m _ h = absurd (cc)

pub cell_scalar : (t : Ty) → is_cell_type t ≡ true → is_scalar t ≡ true
cell_scalar (int w) h = refl
cell_scalar ptr h = refl
cell_scalar _ h = absurd (cc)

pub cell_tokenless : (t : Ty) → is_cell_type t ≡ true → is_tokenless t ≡ true
cell_tokenless (int w) h = refl
cell_tokenless ptr h = refl
cell_tokenless _ h = absurd (cc)

pub cell_known : (m : Module) (t : Ty) → is_cell_type t ≡ true → knows_type m t ≡ true
cell_known m (int w) h = refl
cell_known m ptr h = refl
cell_known m _ h = absurd (cc)

pub cell_shallow : (m : Module) (t : Ty) → is_cell_type t ≡ true → is_shallow m.types t ≡ true
unfolding is_shallow
cell_shallow m (int w) h = refl
cell_shallow m ptr h = refl
cell_shallow m _ h = absurd (cc)

-- a value of the type fits it
pub kind_fits : (t : Ty) → is_cell_type t ≡ true → fits_kind (Some (kind_of t)) t ≡ true
kind_fits (int w) h = itself w
kind_fits ptr h = refl
kind_fits _ h = absurd (cc)

-- a narrower integer than one of 64 bits, or that
pub narrower : (w : ℕ) → is_width w ≡ true → (w == 64) ≡ false → nat_lt w 64 ≡ true
narrower w h = width_cases (λ n. (n == 64) ≡ false → nat_lt n 64 ≡ true) (λ e. refl) (λ e. refl) (λ e. refl) (λ e. refl) (λ e. absurd (cc)) w h

-- a scalar type of such a width is one
pub scalar_cell : (t : Ty) → is_scalar t ≡ true → has_width t ≡ true → is_cell_type t ≡ true
scalar_cell (int w) s h = h
scalar_cell ptr s h = refl
scalar_cell _ s h = absurd (cc)
