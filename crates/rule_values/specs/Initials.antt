-- Initial values of globals (rule Y1).
use Rattle.std.specs.Prelude.{ℕ, Bool, false, not, None, Option, is_some, ◌&&◌}
use Rattle.ir_base.specs.declared.outcome.Place.{Place}
use Rattle.ir_model.specs.Names.{global_named}
use Rattle.ir_model.specs.Ty.{Ty}
use Rattle.ir_model.specs.declared.module.Function.{Function}
use Rattle.ir_model.specs.declared.module.Module.{Module}
use Rattle.ir_model.specs.declared.operand.Operand.{Operand}
use Rattle.rule_names.specs.Items.{Sentence}
use Rattle.rule_types.specs.Wants.{is_int, is_ptr}
use Rattle.rule_values.specs.Fits.{fits_literal}

-- an initial value is a literal of its type, true or false of an i1, null or a global's address of a ptr
abbrev pub fits_initial : Module → Ty → Operand → Bool
fits_initial m t (Operand.Number z) = fits_literal t z
fits_initial m t Operand.True = is_int 1 t
fits_initial m t Operand.False = is_int 1 t
fits_initial m t Operand.Null = is_ptr t
fits_initial m t (Operand.Global n) = is_ptr t && is_some (global_named m n)
fits_initial m t x = false

abbrev pub no_place : ℕ → Function → Option Place
no_place k f = None

-- Y1 of globals: an initial value that doesn't fit its type or names a function
abbrev pub wrong_initials : Module → Sentence
wrong_initials m =
    record {
      on_type = λ k t. false;
      on_global = λ k g. not (fits_initial m g.ty g.init);
      on_declaration = λ k d. false;
      in_function = no_place;
    }
