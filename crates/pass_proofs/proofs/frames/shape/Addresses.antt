-- Slots as bytes of the frame leave the calls of a coroutine, in four steps.
use Rattle.std.proofs.Common.{◌≡◌, ℕ, Bool, true, false, List, length, refl, sym, ap, ◌∙◌, subst, arith}
use Rattle.std.proofs.lemmas.Option.{slice_get-map}
use Rattle.std.specs.Prelude.{Some, None, Option, codes, option_map, slice_get}
use Rattle.pass_exits_proof.proofs.addresses.rules.Placed.{fetched, fetched_keeps, fetched_once, outside_unfetched, same_value, slots_woven}
use Rattle.pass_exits_proof.proofs.addresses.rules.Unmarked.{left_woven, markers_woven, stays_all, unmarked_keeps, unmarked_once}
use Rattle.pass_exits_proof.specs.addresses.rules.Addresses.{AddressesFit, left_over, lies_in_frame, turning_weaving}
use Rattle.pass_exits_proof.specs.edges.rules.Phis.{ArePhisEnteredByJumps}
use Rattle.pass_exits_proof.proofs.fetch.rules.Ends.{blocks_rise}
use Rattle.pass_exits_proof.specs.fetch.rules.Fetches.{base_of, fetch_weaving, second_name}
use Rattle.pass_addresses.specs.Placing.{slot_fetches, with_frame_addresses, without_markers}
use Rattle.pass_proofs.proofs.frames.shape.Fetched.{fetch_steady}
use Rattle.pass_exits_proof.proofs.fetch.shape.Held.{IsHeld}
use Rattle.pass_exits_proof.proofs.edges.calls.Jumps.{jumps_stay}
use Rattle.pass_exits_proof.proofs.rule_laws.rules.shape.Ordered.{IsSuspendValue, all_ordered, placed_calls}
use Rattle.pass_exits_proof.proofs.rule_laws.rules.shape.Results.{suspend_kind, suspend_low}
use Rattle.pass_exits_proof.proofs.edges.calls.Steadily.{keeps_calls}
use Rattle.pass_exits_proof.proofs.rule_laws.rules.shape.Steady.{AreAllOrdered}
use Rattle.pass_exits_proof.proofs.addresses.shape.Turned.{markers_steady, promise_steady, slots_steady}
use Rattle.pass_exits_proof.specs.rule_laws.rules.function_rules.Kept.{KeepsFunctionRules}
use Rattle.ir_model.specs.Ty.{token}
use Rattle.ir_model.specs.declared.module.Function.{Function}
use Rattle.ir_model.specs.declared.module.Module.{Module}
use Rattle.ir_model.specs.declared.operand.Operand.{Operand}
use Rattle.pass_exits_proof.specs.pass_fetch.Blocks.{with_fetches}
use Rattle.pass_exits_proof.specs.pass_fetch.Fetching.{fetch_at, fetch_of}
use Rattle.pass_exits_proof.specs.pass_fetch.declared.fetch.Fetch.{Fetch}
use Rattle.pass_exits_proof.specs.rule_values.Fits.{fits_kind}
use Rattle.pass_exits_proof.specs.rule_values.Kinds.{value_kind}
use Rattle.pass_exits_proof.specs.rule_values.declared.kinds.Kind.{Kind}
use Rattle.pass_exits_proof.proofs.rule_laws.rules.woven_rules.All.{rules_woven}
use Rattle.pass_exits_proof.proofs.rule_laws.rules.woven_rules.Edges.{incoming_woven}
use Rattle.pass_exits_proof.specs.rule_laws.rules.woven_rules.Blocks.{IsWoven}
use Rattle.pass_exits_proof.specs.rule_laws.rules.woven_rules.Pairs.{AreIncomingOnce}
use Rattle.pass_exits_proof.specs.rule_laws.rules.woven_rules.Weaving.{Weaving}
use Rattle.pass_exits_proof.proofs.rule_laws.frames.woven_shape.Shaped.{shape_kept}
use Rattle.pass_exits_proof.specs.rule_laws.frames.woven_shape.Shaped.{IsShaped, KeepsCalls}

-- what is fetched is an address behind begin's value
pub record IsAddress (begin : ℕ) (offsets : List (Option ℕ)) (v : ℕ) (y : Fetch) : Type 0 where
  pub distance : ℕ
  pub offset : slice_get offsets v ≡ Some (Some distance)
  pub same : y ≡ Fetch.Address begin distance

pub address_found : (begin : ℕ) (offsets : List (Option ℕ)) (v : ℕ) (y : Fetch) → fetch_of (slot_fetches begin offsets) (Operand.Local v) ≡ Some y → IsAddress begin offsets v y
address_found begin offsets v y e = on (slice_get offsets v) refl (sym (ap fetch_at (slice_get-map (option_map (Fetch.Address begin)) offsets v)) ∙ e)
  where
    on : (o : Option (Option ℕ)) → slice_get offsets v ≡ o → fetch_at (option_map (option_map (Fetch.Address begin)) o) ≡ Some y → IsAddress begin offsets v y
    on None d h = absurd (cc)
    on (Some None) d h = absurd (cc)
    on (Some (Some distance)) d h = let one : Fetch.Address begin distance ≡ y = cc in record { distance = distance; offset = d; same = sym one }

module _ (m : Module) (k : ℕ) (f : Function) (begin : ℕ) (offsets : List (Option ℕ)) (marked : List Bool) (rules : KeepsFunctionRules m k f) (once : AreIncomingOnce f) (fit : AddressesFit k f begin offsets marked) (coroutine : f.coroutine ≡ true) (shape : IsShaped k f begin) (jumps : ArePhisEnteredByJumps f) where
  ordered_in : (g : Function) → g.coroutine ≡ true → IsShaped k g begin → AreAllOrdered (IsSuspendValue g) g.blocks
  ordered_in g is s = all_ordered (IsSuspendValue g) g.blocks (placed_calls k g is s.calls s.switches)

  -- ---- markers go

  abbrev Unmarked : Function
  Unmarked = without_markers marked f

  abbrev unmarking : Weaving
  unmarking = turning_weaving f stays_all

  woven_unmarked : IsWoven unmarking m f Unmarked
  woven_unmarked = markers_woven m k f marked rules

  pub rules_unmarked : KeepsFunctionRules m k Unmarked
  rules_unmarked = rules_woven unmarking m k f Unmarked woven_unmarked rules once

  pub once_unmarked : AreIncomingOnce Unmarked
  once_unmarked = incoming_woven unmarking m f Unmarked woven_unmarked once

  pub keeps_unmarked : KeepsCalls unmarking f Unmarked
  keeps_unmarked = keeps_calls unmarking k f Unmarked coroutine shape.switches (markers_steady (IsSuspendValue f) marked f.blocks (ordered_in f coroutine shape)) (λ v e. refl)

  pub shape_unmarked : IsShaped k Unmarked begin
  shape_unmarked = shape_kept unmarking m f Unmarked woven_unmarked keeps_unmarked k rules once begin coroutine shape

  -- ---- the promise becomes null

  abbrev Unpromised : Function
  Unpromised = left_over marked f

  abbrev unpromising : Weaving
  unpromising = turning_weaving Unmarked stays_all

  woven_unpromised : IsWoven unpromising m Unmarked Unpromised
  woven_unpromised = left_woven m k f marked rules once

  rules_unpromised : KeepsFunctionRules m k Unpromised
  rules_unpromised = unmarked_keeps m k f marked rules once

  once_unpromised : AreIncomingOnce Unpromised
  once_unpromised = unmarked_once m k f marked rules once

  pub keeps_unpromised : KeepsCalls unpromising Unmarked Unpromised
  keeps_unpromised = keeps_calls unpromising k Unmarked Unpromised coroutine shape_unmarked.switches (promise_steady (IsSuspendValue Unmarked) Unmarked.blocks (ordered_in Unmarked coroutine shape_unmarked)) (λ v e. refl)

  pub shape_unpromised : IsShaped k Unpromised begin
  shape_unpromised = shape_kept unpromising m Unmarked Unpromised woven_unpromised keeps_unpromised k rules_unmarked once_unmarked begin coroutine shape_unmarked

  pub jumps_unpromised : ArePhisEnteredByJumps Unpromised
  jumps_unpromised = jumps_stay unpromising m Unmarked Unpromised woven_unpromised (jumps_stay unmarking m f Unmarked woven_unmarked jumps)

  -- ---- uses are fetched

  abbrev Table : List (Option Fetch)
  Table = slot_fetches begin offsets

  abbrev word : List ℕ
  word = codes "$c.at."

  abbrev Refetched : Function
  Refetched = with_fetches Unpromised Table word

  abbrev refetching : Weaving
  refetching = fetch_weaving Unpromised Table word

  address_kind : (v : ℕ) (y : Fetch) → fetch_of Table (Operand.Local v) ≡ Some y → value_kind Unpromised v ≡ Some Kind.Ptr
  address_kind v y e = let x = address_found begin offsets v y e in same_value m k f begin offsets marked rules once fit v Kind.Ptr (fit.slots v x.distance x.offset)

  free_unless : (v : ℕ) → (value_kind Unpromised v ≡ Some Kind.Ptr → ⊥) → fetch_of Table (Operand.Local v) ≡ None
  free_unless v h = on (fetch_of Table (Operand.Local v)) refl
    where
      on : (o : Option Fetch) → fetch_of Table (Operand.Local v) ≡ o → o ≡ None
      on None e = refl
      on (Some y) e = absurd (h (address_kind v y e))

  no_pointer : (v : ℕ) → IsSuspendValue Unpromised v → value_kind Unpromised v ≡ Some Kind.Ptr → ⊥
  no_pointer v x e = let both : Some (Kind.Int 8) ≡ Some Kind.Ptr = sym (suspend_kind m k Unpromised rules_unpromised v x) ∙ e in absurd (cc)

  token_free : (v : ℕ) → fits_kind (value_kind Unpromised v) token ≡ true → value_kind Unpromised v ≡ Some Kind.Ptr → ⊥
  token_free v h e = let t : false ≡ true = sym (ap (λ (o : Option Kind). fits_kind o token) e) ∙ h in absurd (cc)

  held : IsHeld Unpromised begin Table
  held = record {
    tokens = λ v h. free_unless v (token_free v h);
    begin_free = outside_unfetched begin offsets begin fit.outside;
    results = λ v x. free_unless v (no_pointer v x);
    bases = λ v u y x e same.
        let z = address_found begin offsets u y e in
        no_pointer v x (ap (value_kind Unpromised) (sym same ∙ ap base_of z.same) ∙ same_value m k f begin offsets marked rules once fit begin Kind.Ptr fit.pointer);
  }

  pub keeps_refetched : KeepsCalls refetching Unpromised Refetched
  keeps_refetched =
      keeps_calls refetching k Unpromised Refetched coroutine shape_unpromised.switches
      (fetch_steady m k Unpromised rules_unpromised coroutine shape_unpromised.calls shape_unpromised.switches jumps_unpromised begin Table shape_unpromised.named held (suspend_low m k Unpromised rules_unpromised) (length Unpromised.names) (length Unpromised.names) (second_name Unpromised Table) (omega arith) (blocks_rise Table (length Unpromised.names) Unpromised.blocks))
      (λ v e. refl)

  pub shape_refetched : IsShaped k Refetched begin
  shape_refetched = shape_kept refetching m Unpromised Refetched (fetched m k f begin offsets marked rules once fit) keeps_refetched k rules_unpromised once_unpromised begin coroutine shape_unpromised

  -- ---- allocas go

  abbrev Addressed : Function
  Addressed = with_frame_addresses f begin offsets marked

  abbrev addressing : Weaving
  addressing = turning_weaving Refetched (lies_in_frame offsets)

  pub keeps_addressed : KeepsCalls addressing Refetched Addressed
  keeps_addressed =
      keeps_calls addressing k Refetched Addressed coroutine shape_refetched.switches (slots_steady (IsSuspendValue Refetched) offsets Refetched.blocks (ordered_in Refetched coroutine shape_refetched))
      (λ v e. let both : Some begin ≡ Some v = sym shape_refetched.named ∙ e in let same : begin ≡ v = cc in subst (λ (u : ℕ). lies_in_frame offsets u ≡ false) same fit.outside)

  pub addressed_shape : IsShaped k Addressed begin
  addressed_shape = shape_kept addressing m Refetched Addressed (slots_woven m k f begin offsets marked rules once fit) keeps_addressed k (fetched_keeps m k f begin offsets marked rules once fit) (fetched_once m k f begin offsets marked rules once fit) begin coroutine shape_refetched
