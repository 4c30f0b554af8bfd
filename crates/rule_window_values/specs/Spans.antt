-- The values made in windows, and where the suspends' own edges lead.
use Rattle.std.specs.Prelude.{ℕ, zero, suc, Bool, true, false, List, [], map, length, slice_get, Some, None, Option, option_to_list, ◌≡◌, ◌↔◌, ◌<◌, ◌∷◌, ◌++◌}
use Rattle.rule_uses.specs.Questions.{IsNumbering}
use Rattle.flow_solver.specs.Paths.{IsListed}
use Rattle.ir_parts.specs.Contents.{result_of}
use Rattle.ir_model.specs.Names.{position_of}
use Rattle.ir_model.specs.declared.instr.Instr.{Instr}
use Rattle.ir_model.specs.declared.module.Function.{Function}
use Rattle.ir_paths.specs.Paths.{Leads}
use Rattle.ir_paths.specs.Windows.{destroy_label, instr_at, resume_label, saves_of}
use Rattle.ir_paths.specs.declared.point.Point.{Point}
use Rattle.ir_paths.specs.declared.point.Window.{Window}
use Rattle.rule_window_values.specs.Kept.{IsMadeIn, phi_results}
use Rattle.rule_window_values.specs.declared.spans.Span.{Span}

-- ---- the values at points

abbrev pub result_in : Option Instr → List ℕ
result_in None = []
result_in (Some i) = option_to_list (result_of i)

-- the phis of a block, where the position is its first
abbrev pub front_values : Function → ℕ → ℕ → List ℕ
front_values f block zero = phi_results f block
front_values f block (suc at) = []

-- the values made at a point
abbrev pub point_values : Function → Point → List ℕ
point_values f p = front_values f p.block p.at ++ result_in (instr_at f p)

abbrev pub inside_values : Function → List Point → List ℕ
inside_values f [] = []
inside_values f (p ∷ ps) = point_values f p ++ inside_values f ps

abbrev pub values_if : Bool → List ℕ → List ℕ
values_if true vs = vs
values_if false vs = []

-- the suspend is the first of its block, and a path leads to it from the save with neither between
pub record IsFrontOf (f : Function) (k s : Point) : Type 0 where
  pub first : s.at ≡ 0
  pub path : Leads f (k ∷ s ∷ []) k s

-- ---- spans

pub record IsSpanOf (f : Function) (k s : Point) (span : Span) : Type 0 where
  pub block : span.block ≡ s.block
  pub resumed : span.resumed ≡ position_of f (resume_label f s)
  pub destroyed : span.destroyed ≡ position_of f (destroy_label f s)
  pub values : (v : ℕ) → IsListed v span.values ↔ IsMadeIn f k s v

pub record ComesFrom (f : Function) (saves : List (Point × Point)) (span : Span) : Type 0 where
  pub save : Point
  pub suspend : Point
  pub is_save : IsListed (save, suspend) saves
  pub is_span : IsSpanOf f save suspend span

pub record HasSpan (f : Function) (k s : Point) (spans : List Span) : Type 0 where
  pub span : Span
  pub is_listed : IsListed span spans
  pub is_span : IsSpanOf f k s span

-- a span for each of these saves with its suspend, and no other
pub record AreSpans (f : Function) (saves : List (Point × Point)) (spans : List Span) : Type 0 where
  pub each : (span : Span) → IsListed span spans → ComesFrom f saves span
  pub all : (k s : Point) → IsListed (k, s) saves → HasSpan f k s spans

abbrev pub AreSpansOf : Function → List Span → Type 0
AreSpansOf f spans = AreSpans f (saves_of f) spans

abbrev pub pairs_of : List Window → List (Point × Point)
pairs_of ws = map (λ w. (w.save, w.suspend)) ws

-- ---- numbers

pub record IsNumbered (numbers : List (Option ℕ)) (values : List ℕ) (v : ℕ) : Type 0 where
  pub number : ℕ
  pub has : slice_get numbers v ≡ Some (Some number)
  pub below : number < length values

-- these values got numbers, and the others kept theirs
pub record AddsNumbers (names : ℕ) (numbers numbers2 : List (Option ℕ)) (values values2 added : List ℕ) : Type 0 where
  pub numbering : IsNumbering names numbers2 values2
  pub kept : (v : ℕ) → IsNumbered numbers values v → IsNumbered numbers2 values2 v
  pub numbered : (v : ℕ) → IsListed v added → IsNumbered numbers2 values2 v

-- the values of all these spans have numbers
pub record AreNumbered (names : ℕ) (spans : List Span) (numbers : List (Option ℕ)) (values : List ℕ) : Type 0 where
  pub numbering : IsNumbering names numbers values
  pub numbered : (span : Span) (v : ℕ) → IsListed span spans → IsListed v span.values → IsNumbered numbers values v
