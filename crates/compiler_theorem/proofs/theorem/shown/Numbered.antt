-- The suspends of a source's coroutine keep their numbers, and its slots their addresses, where saves are written
-- out and edges have blocks.
use Rattle.std.proofs.Common.{◌≡◌, ◌↔◌, ℕ, Bool, true, List, [], ◌∷◌, length, map, Option, Some, None, inl, inr, refl}
use Rattle.std.proofs.Common.{sym, ap, ◌∙◌, subst}
use Rattle.std.proofs.lemmas.Option.{slice_get-map}
use Rattle.std.specs.Prelude.{if◌then◌else◌, option_map, slice_get}
use Rattle.compiler_theorem.specs.theorem.Lowered.{IsLowered, Lowered, early}
use Rattle.compiler_theorem.specs.theorem.Suspended.{kept_place}
use Rattle.compiler.specs.flow_solver.Paths.{IsListed}
use Rattle.compiler.specs.ir_model.Calls.{first_result}
use Rattle.compiler.specs.ir_model.Names.{function_at}
use Rattle.compiler.specs.ir_model.declared.module.Function.{Function}
use Rattle.compiler.specs.ir_model.declared.module.Module.{Module}
use Rattle.compiler.specs.ir_model.declared.operand.Intrinsic.{Intrinsic}
use Rattle.compiler.specs.ir_paths.Slots.{addresses_of, allocas_in, allocas_of}
use Rattle.compiler.specs.ir_paths.Windows.{is_call_of, points_where}
use Rattle.compiler.specs.ir_paths.declared.point.Point.{Point}
use Rattle.compiler.specs.pass_early.BeginName.{if_unnamed, with_begin_name}
use Rattle.compiler.specs.pass_early.Early.{renaming_of}
use Rattle.compiler.specs.pass_edges.EdgeBlocks.{with_edge_blocks}
use Rattle.compiler.proofs.pass_proofs.early.begin_naming.NamedParts.{call_of_same as call_of_named}
use Rattle.compiler.proofs.pass_proofs.early.begin_naming.NamedParts.{points_where_same as points_named}
use Rattle.compiler.proofs.pass_proofs.early.frames.Functions.{StaysUnderEach, first_is, second_is, stays_under_all}
use Rattle.compiler.proofs.pass_proofs.early.frames.NoParams.{accepted_apart}
use Rattle.compiler.proofs.pass_proofs.early.path_rules.RenamedOperands.{map_was}
use Rattle.compiler.proofs.pass_proofs.early.renaming.Composition.{early_in_turn}
use Rattle.compiler.proofs.pass_proofs.early.renaming.Parts.{call_of_same, points_where_same}
use Rattle.compiler.proofs.pass_proofs.early.saves.Apart.{back_back}
use Rattle.compiler.proofs.pass_proofs.early.saves.Behind.{suspends_moved}
use Rattle.compiler.proofs.pass_proofs.early.saves.Parts.{function_saved}
use Rattle.compiler.proofs.pass_proofs.early.saves.Slots.{same_addresses as addresses_saved}
use Rattle.compiler.proofs.pass_proofs.early.saves.Slots.{same_allocas as allocas_saved}
use Rattle.compiler.proofs.pass_proofs.early.slots.NamedPlaces.{addresses_same as addresses_named}
use Rattle.compiler.proofs.pass_proofs.early.slots.NamedPlaces.{allocas_same as allocas_named}
use Rattle.compiler.proofs.pass_proofs.early.slots.NamedPlaces.{blocks_same as blocks_named}
use Rattle.compiler.proofs.pass_proofs.early.slots.RenamedParts.{addresses_same, allocas_plain, allocas_same}
use Rattle.compiler.proofs.pass_proofs.early.slots.RenamedParts.{blocks_plain}
use Rattle.compiler.proofs.pass_proofs.early.slots.RenamedParts.{blocks_same, slots_plain}
use Rattle.compiler.proofs.pass_proofs.early.source_rules.Accepted.{all_named_keep}
use Rattle.compiler.proofs.pass_proofs.edges.paths.Points.{points_moved}
use Rattle.compiler.proofs.pass_proofs.edges.paths.Slots.{same_addresses}
use Rattle.compiler.proofs.pass_proofs.edges.rules.Homes.{spots_apart}
use Rattle.compiler.specs.pass_proofs.early.early_states.Beside.{unsaved_module}
use Rattle.compiler.specs.pass_proofs.early.renaming.Passes.{named_module, renamed_coroutine}
use Rattle.compiler.specs.pass_proofs.early.renaming.Regular.{IsPlain}
use Rattle.compiler.specs.pass_proofs.early.saves.SavesWritten.{saved_function}
use Rattle.compiler.specs.pass_proofs.early.saves.Spots.{back_of}
use Rattle.compiler.specs.pass_proofs.edges.paths.Spots.{moved}
use Rattle.compiler.specs.pass_proofs.edges.states.MovedState.{placed}
use Rattle.compiler.proofs.rule_laws.rules.sources.Tables.{all_tabled}
use Rattle.compiler.proofs.rule_laws.texts.named_texts.Placed.{locals_named, uses_named}
use Rattle.compiler.specs.run_laws.changed.Changed.{Each}

abbrev suspends : Function → List Point
suspends f = points_where (is_call_of Intrinsic.CoroSuspend) f

-- ---- with begin named

unnamed_suspends : (o : Option ℕ) (f : Function) → suspends (if_unnamed o f) ≡ suspends f
unnamed_suspends None f = points_named (length f.names) (is_call_of Intrinsic.CoroSuspend)
    (call_of_named (length f.names) Intrinsic.CoroSuspend) f
unnamed_suspends (Some n) f = refl

unnamed_addresses : (o : Option ℕ) (f : Function) (slot : ℕ) → addresses_of (if_unnamed o f) slot ≡ addresses_of f slot
unnamed_addresses None f slot = addresses_named (length f.names) f slot
unnamed_addresses (Some n) f slot = refl

unnamed_allocas : (o : Option ℕ) (f : Function) → allocas_of (if_unnamed o f) ≡ allocas_of f
unnamed_allocas None f = blocks_named (length f.names) f allocas_in (allocas_named (length f.names) f) f.blocks
unnamed_allocas (Some n) f = refl

each_listed : {A : Type 0} (P : A → Type 0) (xs : List A) → Each P xs → (x : A) → IsListed x xs → P x
each_listed P [] h x l = absurd l
each_listed P (y ∷ xs) h x (inl e) = subst P (sym e) h.0
each_listed P (y ∷ xs) h x (inr l) = each_listed P xs h.1 x l

-- a point where edges have blocks
placed_moved : (f : Function) → f.coroutine ≡ true → (p : Point) → placed f p ≡ moved f p
placed_moved f is p = ap (λ (b : Bool). record {
  block = if b then (moved f (record { block = p.block; at = 0 })).block else p.block;
  at = p.at;
}) is

moved_once : (f : Function) (p q : Point) → moved f p ≡ moved f q → p ≡ q
moved_once f p q e =
    let block : p.block ≡ q.block = spots_apart f p.block q.block (ap (λ (z : Point). z.block) e) in
    let at : p.at ≡ q.at = ap (λ (z : Point). z.at) e in
    λ j. record { block = block j; at = at j }

module _ (l : Lowered) (low : IsLowered l) (func : ℕ) (was : (function_at l.source func).coroutine ≡ true) where
  abbrev f : Function
  f = function_at l.source func

  abbrev u : Function
  u = function_at (unsaved_module l.source) func

  abbrev g : Function
  g = function_at (early l) func

  stays : (P : Function → Type 0) → StaysUnderEach P → P (function_at l.source func) ↔ P (function_at (early l) func)
  stays P each = stays_under_all l.source (locals_named l.text l.source low.source.stands)
      (uses_named l.text l.source low.source.stands)
      (all_named_keep l.source low.source.accepted (all_tabled l.text l.source low.source.stands))
      (accepted_apart l.source low.source.accepted (locals_named l.text l.source low.source.stands)) func was P each

  same_kind : (h k : Function) → k.coroutine ≡ h.coroutine → (h.coroutine ≡ true) ↔ (k.coroutine ≡ true)
  same_kind h k e = ((λ d. e ∙ d), (λ d. sym e ∙ d))

  pub early_coroutine : (function_at (early l) func).coroutine ≡ true
  early_coroutine = (stays (λ (h : Function). h.coroutine ≡ true) (record {
    named = λ h n t. same_kind h (with_begin_name h) (kind (first_result Intrinsic.CoroBegin h) h);
    renamed = λ h r ok plain. same_kind h (renamed_coroutine r h) refl;
    saved = λ h n t. same_kind h (saved_function h) refl;
  })).0 was
    where
      kind : (o : Option ℕ) (h : Function) → (if_unnamed o h).coroutine ≡ h.coroutine
      kind None h = refl
      kind (Some n) h = refl

  -- ---- suspends

  abbrev h : Function
  h = function_at (named_module l.source) func

  unsaved_suspends : suspends (function_at (unsaved_module l.source) func) ≡ suspends (function_at l.source func)
  unsaved_suspends =
      ap suspends (second_is l.source (locals_named l.text l.source low.source.stands)
      (uses_named l.text l.source low.source.stands)
      (all_named_keep l.source low.source.accepted (all_tabled l.text l.source low.source.stands))
      (accepted_apart l.source low.source.accepted (locals_named l.text l.source low.source.stands)) func was)
      ∙ points_where_same (renaming_of h) (is_call_of Intrinsic.CoroSuspend) (is_call_of Intrinsic.CoroSuspend)
      (call_of_same (renaming_of h) Intrinsic.CoroSuspend) h
      ∙ ap suspends (first_is l.source (locals_named l.text l.source low.source.stands)
      (uses_named l.text l.source low.source.stands)
      (all_named_keep l.source low.source.accepted (all_tabled l.text l.source low.source.stands))
      (accepted_apart l.source low.source.accepted (locals_named l.text l.source low.source.stands)) func was)
      ∙ unnamed_suspends (first_result Intrinsic.CoroBegin f) f

  saved_is : function_at (early l) func ≡ saved_function (function_at (unsaved_module l.source) func)
  saved_is = ap (λ (m : Module). function_at m func) (early_in_turn l.source)
      ∙ function_saved (unsaved_module l.source) func

  edged_suspends : suspends (with_edge_blocks (function_at (early l) func))
      ≡ map (moved (function_at (early l) func))
      (map (back_of (function_at (unsaved_module l.source) func)) (suspends (function_at l.source func)))
  edged_suspends = points_moved (is_call_of Intrinsic.CoroSuspend) g
      ∙ ap (map (moved g)) (ap suspends saved_is ∙ suspends_moved u ∙ ap (map (back_of u)) unsaved_suspends)

  -- by its place a suspend has its number
  pub source_number : (j : ℕ) (p : Point)
      → slice_get (suspends (with_edge_blocks (function_at (early l) func))) j ≡ Some (kept_place l.source func p)
      → slice_get (suspends (function_at l.source func)) j ≡ Some p
  source_number j p e =
      let y = map_was (moved g) (map (back_of u) (suspends f)) j (kept_place l.source func p)
      (sym (ap (λ (ps : List Point). slice_get ps j) edged_suspends) ∙ e) in
      let z = map_was (back_of u) (suspends f) j y.0 y.1.0 in
      let same : back_of u p ≡ y.0 =
      moved_once g (back_of u p) y.0 (sym (placed_moved g early_coroutine (back_of u p)) ∙ y.1.1) in
      z.1.0 ∙ ap Some (sym (back_back u p z.0 (same ∙ z.1.1)))

  pub edged_number : (j : ℕ) (p : Point) → slice_get (suspends (function_at l.source func)) j ≡ Some p
      → slice_get (suspends (with_edge_blocks (function_at (early l) func))) j ≡ Some (kept_place l.source func p)
  edged_number j p e =
      ap (λ (ps : List Point). slice_get ps j) edged_suspends
      ∙ slice_get-map (moved g) (map (back_of u) (suspends f)) j
      ∙ ap (option_map (moved g)) (slice_get-map (back_of u) (suspends f) j ∙ ap (option_map (back_of u)) e)
      ∙ ap Some (sym (placed_moved g early_coroutine (back_of u p)))

  -- ---- addresses

  abbrev SameAddresses : ℕ → Function → Type 0
  SameAddresses slot h =
      IsListed slot (allocas_of h) → addresses_of h slot ≡ addresses_of (function_at l.source func) slot

  by_same : (slot : ℕ) (h k : Function) → allocas_of k ≡ allocas_of h
      → (IsListed slot (allocas_of h) → addresses_of k slot ≡ addresses_of h slot)
      → SameAddresses slot h ↔ SameAddresses slot k
  by_same slot h k allocas same = (
    (λ q li. same (subst (IsListed slot) allocas li) ∙ q (subst (IsListed slot) allocas li)),
    (λ q li. sym (same li) ∙ q (subst (IsListed slot) (sym allocas) li)),
  )

  early_addresses : (slot : ℕ) → IsListed slot (allocas_of (function_at (early l) func))
      → addresses_of (function_at (early l) func) slot ≡ addresses_of (function_at l.source func) slot
  early_addresses slot = (stays (SameAddresses slot) (record {
    named = λ h n t. by_same slot h (with_begin_name h) (unnamed_allocas (first_result Intrinsic.CoroBegin h) h)
        (λ li. unnamed_addresses (first_result Intrinsic.CoroBegin h) h slot);
    renamed = λ h r ok plain. by_same slot h (renamed_coroutine r h)
        (blocks_same r allocas_in allocas_in (allocas_same r) h.blocks)
        (λ li. addresses_same r h ok slot (each_listed (IsPlain r) (allocas_of h)
        (blocks_plain r allocas_in (allocas_plain r) h.blocks (slots_plain r h ok)) slot li));
    saved = λ h n t. by_same slot h (saved_function h) (allocas_saved h t) (λ li. addresses_saved h t slot);
  })).0 (λ li. refl)

  pub edged_addresses : (slot : ℕ) → IsListed slot (allocas_of (function_at (early l) func))
      → addresses_of (with_edge_blocks (function_at (early l) func)) slot
      ≡ addresses_of (function_at l.source func) slot
  edged_addresses slot li = same_addresses g slot ∙ early_addresses slot li
