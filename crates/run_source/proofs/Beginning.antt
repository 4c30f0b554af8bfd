-- A begun instance with the slots that it gets.
use Rattle.std.proofs.Common.{◌≡◌, ℕ, List, [], ◌∷◌, ◌++◌, length, ap, sym, ◌∙◌, Some}
use Rattle.std.specs.Prelude.{filter, not, slice_set}
use Rattle.std.proofs.lemmas.List.{append-nil}
use Rattle.run_source.specs.Source.{begun, is_among, new_instance}
use Rattle.run_source.specs.State.{own_facts}
use Rattle.run_source_tables.specs.Given.{Given}
use Rattle.run_source.specs.declared.state.Instance.{Instance}
use Rattle.run_source.specs.declared.state.State.{State}
use Rattle.run_source_tables.specs.run_step.declared.world.Slot.{Slot}
use Rattle.run_source.proofs.Settings.{set-last}

abbrev with_start : State → ℕ → List Instance → List Slot → State
with_start s i instances own = record s { instances = instances; top = record s.top { slots = own; instance = Some i } }

pub begun-is : (g : Given) (s : State) (block start i : ℕ) (instances : List Instance) (kept own : List Slot) → i ≡ length s.instances → instances ≡ s.instances ++ (record (new_instance s.top.func block start) { slots = kept }) ∷ [] → kept ≡ filter (λ slot. not (is_among (own_facts g s).ramp_slots slot)) s.top.slots → own ≡ filter (λ slot. is_among (own_facts g s).ramp_slots slot) s.top.slots → record s { instances = instances; top = record s.top { slots = own; instance = Some i } } ≡ begun g s block start
begun-is g s block start i instances kept own at is k o =
    let x = new_instance s.top.func block start in
    let ks = filter (λ slot. not (is_among (own_facts g s).ramp_slots slot)) s.top.slots in
    let os = filter (λ slot. is_among (own_facts g s).ramp_slots slot) s.top.slots in
    let placed : instances ≡ slice_set (s.instances ++ x ∷ []) (length s.instances) (record x { slots = ks ++ [] }) =
    is ∙ ap (λ (l : List Slot). s.instances ++ (record x { slots = l }) ∷ []) (k ∙ sym (append-nil ks)) ∙ sym (set-last s.instances x (record x { slots = ks ++ [] })) in
    ap (λ n. with_start s n instances own) at
    ∙ ap (λ (l : List Instance). with_start s (length s.instances) l own) placed
    ∙ ap (λ (l : List Slot). with_start s (length s.instances) (slice_set (s.instances ++ x ∷ []) (length s.instances) (record x { slots = ks ++ [] })) l) (o ∙ sym (append-nil os))
