-- Sizes of types, and alignments (rule Y4).
use Rattle.std.specs.Prelude.{ℕ, Bool, false, not, None, Option, nat_le, ◌&&◌, ◌||◌, ◌==◌}
use Rattle.ir_base.specs.declared.outcome.Place.{Place}
use Rattle.ir_parts.specs.Parts.{first_part, parts_of}
use Rattle.ir_model.specs.Layout.{size_of}
use Rattle.ir_model.specs.declared.instr.Instr.{Instr}
use Rattle.ir_model.specs.declared.module.Function.{Function}
use Rattle.ir_model.specs.declared.module.Module.{Module}
use Rattle.rule_locals.specs.Instrs.{on_instr}
use Rattle.rule_names.specs.Items.{Sentence}
use Rattle.rule_names.specs.declared.stage.Stage.{Stage}

abbrev pub is_aligned : ℕ → Bool
is_aligned a = (a == 1) || ((a == 2) || ((a == 4) || ((a == 8) || (a == 16))))

-- from 1 to so many bytes
abbrev pub is_sized : ℕ → ℕ → Bool
is_sized most n = nat_le 1 n && nat_le n most

-- 2^20; in a plain module, where a frame may be an alloca, 2^24
abbrev pub most_of_alloca : Stage → ℕ
most_of_alloca Stage.Source = 1048576
most_of_alloca Stage.Plain = 16777216

-- Y4: an alloca or getelementptr type of size 0 or above the limit; an alignment that isn't 1, 2, 4, 8 or 16 (one that isn't written is the type's)
abbrev pub breaks_extents : Stage → Module → Place → Instr → Bool
breaks_extents stage m place (Instr.Alloca r ty align) = not (is_sized (most_of_alloca stage) (size_of m ty) && is_aligned align)
breaks_extents stage m place (Instr.Load r ty address align) = not (is_aligned align)
breaks_extents stage m place (Instr.Store arg address align) = not (is_aligned align)
breaks_extents stage m place (Instr.Gep r inbounds ty base indices) = not (is_sized 1048576 (size_of m ty))
breaks_extents stage m place i = false

abbrev pub first_past_extent : Stage → Module → ℕ → Function → Option Place
first_past_extent stage m k f = first_part (on_instr (breaks_extents stage m)) (parts_of k f)

abbrev pub no_place : ℕ → Function → Option Place
no_place k f = None

-- Y4 of globals: an alignment that isn't 1, 2, 4, 8 or 16
abbrev pub misaligned_globals : Sentence
misaligned_globals =
    record {
      on_type = λ k t. false;
      on_global = λ k g. not (is_aligned g.align);
      on_declaration = λ k d. false;
      in_function = no_place;
    }
