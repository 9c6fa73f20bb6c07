-- The calls of a step together, and what the step comes to.
use Rattle.std.proofs.lemmas.Grind.{common_steps}
use Rattle.std.proofs.Common.{◌≡◌, ◌<◌, ◌≤◌, ℕ, zero, suc, Bool, true, false, cond, List, [], ◌∷◌, ◌++◌, length, get_or, map, Option, Some, None, refl, sym, ap, subst, ◌∙◌, arith}
use Rattle.std.{proofs.lemmas.Option.{slice_get-map, slice_get_past, slice_get_read}, specs.{List.All, Prelude.slice_get}}
use Rattle.vs_script.specs.{App.{Act, instruction_view}, declared.app.{App.App, Instruction.Instruction}}
use Rattle.vs_ring_port.specs.Contents.{RingContents}
use Rattle.vs_driver_parts.specs.{Conversations.poll_of, Playing.Plays, State.DriverState, declared.answers.Polled.Polled}
use Rattle.laws_driver.specs.Carried.Calls.{GuestCall, Made}
use Rattle.vs_apps_parts.specs.{Journals.{data_at, data_in, made_as, wait_noted, wait_place}, Scripts.{AreRight, IsRight, RunScript, acts_of, after_step, calls_in, calls_next}}
use Rattle.vs_apps_parts.specs.{Scripts.{id_of, recv_next, script_of, slice_left, told_in}, Told.{step_wait, waits_on}, declared.journal.{Entry.Entry, WaitsFor.WaitsFor}}
use Rattle.vs_apps_parts.specs.declared.{progress.{AppState.AppState, Progress.Progress, Stepped.Stepped}, told.Told.Told}
use Rattle.laws_apps.specs.{Runs.{Acts, MakesCalls, Moves, Run, Steps, Waits, app_at, poll_moved, with_app}, Calls.{CallsAs, MakesAll, run_with}}
use Rattle.laws_driver.specs.Carried.Calls as call

module _ (script : RunScript) (k : ℕ) where
  pub one_made : (c : GuestCall) (told : Told) (old new : Run) → CallsAs script k c told old new → MakesAll script k (c ∷ []) (told ∷ []) old new
  one_made c told old new calls = record {
    made = made_as c calls.0 ∷ [];
    are = refl;
    tell = ap (λ (t : Told). t ∷ []) (sym calls.1);
    makes = (new, calls.2, refl);
  }

  pub none_made : (run : Run) → MakesAll script k [] [] run run
  none_made run = record { made = []; are = refl; tell = refl; makes = refl }

  -- One that is made where a test says so.
  pub one_if : (b : Bool) (c : GuestCall) (told : Told) (old new : Run) → b ≡ true → CallsAs script k c told old new
      → MakesAll script k (cond b (c ∷ []) []) (told ∷ []) old new
  one_if true c told old new is calls = one_made c told old new calls
  one_if false c told old new is calls = absurd cc

  pub made_same : (cs ds : List GuestCall) (ts : List Told) (old new : Run) → cs ≡ ds → MakesAll script k cs ts old new → MakesAll script k ds ts old new
  made_same cs ds ts old new same made = subst (λ (xs : List GuestCall). MakesAll script k xs ts old new) same made

  -- The look of a connect that asked, the connect of one that didn't, and the next receive.
  pub looks_if : (b : Bool) (id named port : ℕ) (told : Told) (old new : Run) → b ≡ true → id ≡ named → CallsAs script k (call.LookAt id) told old new
      → CallsAs script k (cond b (call.LookAt named) (call.Connect port)) told old new
  looks_if true id named port told old new is same calls = subst (λ (i : ℕ). CallsAs script k (call.LookAt i) told old new) same calls
  looks_if false id named port told old new is same calls = absurd cc

  pub connects_if : (b : Bool) (named port : ℕ) (told : Told) (old new : Run) → b ≡ false → CallsAs script k (call.Connect port) told old new
      → CallsAs script k (cond b (call.LookAt named) (call.Connect port)) told old new
  connects_if true named port told old new is calls = absurd cc
  connects_if false named port told old new is calls = calls

  pub receives_next : (p : Progress) (n id m : ℕ) (told : Told) (old new : Run) → id ≡ id_of p → m ≡ slice_left p.got n
      → CallsAs script k (call.Recv id m) told old new → CallsAs script k (recv_next n p) told old new
  receives_next p n id m told old new named few calls = grind (arith, common_steps)

  -- The calls of an instruction that is known.
  pub made_for : (i is : Instruction) (p : Progress) (cs : List GuestCall) (ts all : List Told) (old new : Run) → i ≡ is
      → calls_next (instruction_view is) p ≡ cs → all ≡ ts → MakesAll script k cs ts old new → MakesAll script k (calls_next (instruction_view i) p) all old new
  made_for i is p cs ts all old new same next says made = grind (arith, common_steps)

  calls_then : (xs ys : List Made) → calls_in (xs ++ ys) ≡ calls_in xs ++ calls_in ys
  calls_then [] ys = refl
  calls_then (x ∷ xs) ys = ap (λ (cs : List GuestCall). x.call ∷ cs) (calls_then xs ys)

  told_then : (xs ys : List Made) → told_in (xs ++ ys) ≡ told_in xs ++ told_in ys
  told_then [] ys = refl
  told_then (x ∷ xs) ys = ap (λ (ts : List Told). told_in (x ∷ []) ++ ts) (told_then xs ys)

  makes_then : (xs ys : List Made) (old mid new : Run) → MakesCalls script k xs old mid → MakesCalls script k ys mid new
      → MakesCalls script k (xs ++ ys) old new
  makes_then [] ys old mid new one two = subst (λ (r : Run). MakesCalls script k ys r new) one two
  makes_then (x ∷ xs) ys old mid new one two = (one.0, one.1, makes_then xs ys one.0 mid new one.2 two)

  pub both_made : (cs ds : List GuestCall) (ts us : List Told) (old mid new : Run) → MakesAll script k cs ts old mid → MakesAll script k ds us mid new
      → MakesAll script k (cs ++ ds) (ts ++ us) old new
  both_made cs ds ts us old mid new one two = grind (arith, common_steps, calls_then, told_then, makes_then)

  -- The data of the instruction that an app is at.
  pub data_of : (at : ℕ) (i is : Instruction) → slice_get (acts_of k script) at ≡ Some (instruction_view i) → i ≡ is
      → data_at at (acts_of k script) ≡ data_in (instruction_view is)
  data_of at i is found same =
      ap (λ (o : Option Act). elim o as (λ _. List ℕ) [ None ↦ [] | Some a ↦ data_in a ]) found ∙ ap (λ (x : Instruction). data_in (instruction_view x)) same

  -- What the step comes to.
  module _ (act : Act) (told : List Told) (mid over : Run) where
    pub moves_as : (s : AppState) (p : Progress) (w : Option ℕ) → s ≡ app_at k mid → slice_get (acts_of k script) s.progress.at ≡ Some act
        → MakesAll script k (calls_next act s.progress) told mid over → step_wait told ≡ None → p ≡ after_step act told s.progress
        → w ≡ waits_on told s.waiting → Moves script k mid (with_app k (record { progress = p; waiting = w }) over)
    moves_as s p w is found all none goes stays = subst For (sym is) here found all goes stays
      where
        For : AppState → Type 0
        For s = slice_get (acts_of k script) s.progress.at ≡ Some act → MakesAll script k (calls_next act s.progress) told mid over
            → p ≡ after_step act told s.progress → w ≡ waits_on told s.waiting → Moves script k mid (with_app k (record { progress = p; waiting = w }) over)

        here : For (app_at k mid)
        here found all goes stays =
            let then : p ≡ after_step act (told_in all.made) (app_at k mid).progress =
            goes ∙ ap (λ (ts : List Told). after_step act ts (app_at k mid).progress) (sym all.tell) in
            let place : w ≡ waits_on (told_in all.made) (app_at k mid).waiting =
            stays ∙ ap (λ (ts : List Told). waits_on ts (app_at k mid).waiting) (sym all.tell) in
            record {
              calls = record { act = act; next = found; made = all.made; calls = all.are; over = over; makes = all.makes };
              no_wait = ap step_wait all.tell ∙ none;
              moves = λ i. with_app k (record { progress = then i; waiting = place i }) over;
            }

    pub waits_as : (s : AppState) (why : WaitsFor) (place : ℕ) (entries : List Entry) (bytes : List ℕ) → bytes ≡ over.bytes → s ≡ app_at k mid
        → slice_get (acts_of k script) s.progress.at ≡ Some act → MakesAll script k (calls_next act s.progress) told mid over
        → step_wait told ≡ Some why → place ≡ wait_place k s.waiting over.entries → entries ≡ wait_noted k why s.waiting over.entries
        → Waits script k why mid (record (with_app k (record { progress = s.progress; waiting = Some place }) over) { entries = entries; bytes = bytes })
    waits_as s why place entries bytes stay is found all waits at notes = subst For (sym is) here found all at notes
      where
        For : AppState → Type 0
        For s = slice_get (acts_of k script) s.progress.at ≡ Some act → MakesAll script k (calls_next act s.progress) told mid over
            → place ≡ wait_place k s.waiting over.entries → entries ≡ wait_noted k why s.waiting over.entries
            → Waits script k why mid (record (with_app k (record { progress = s.progress; waiting = Some place }) over) { entries = entries; bytes = bytes })

        here : For (app_at k mid)
        here found all at notes = record {
          calls = record { act = act; next = found; made = all.made; calls = all.are; over = over; makes = all.makes };
          waits = ap step_wait all.tell ∙ waits;
          notes = λ i. record (with_app k (record { progress = (app_at k mid).progress; waiting = Some (at i) }) over) { entries = notes i; bytes = stay i };
        }

  -- The poll before it, where room for the journal was made first.
  pub step_as : (s : Stepped) (polled : Polled) (moved : Bool) (d t : DriverState) (c e : RingContents) (apps : List AppState) (es fs : List Entry)
      (bs cs : List ℕ) (new : Run) → moved ≡ poll_moved polled → fs ≡ es → cs ≡ bs → Plays (poll_of d) c (t, polled) e
      → Acts script k s (run_with t e apps fs cs) new → Steps script k s moved (run_with d c apps es bs) new
  step_as s polled moved d t c e apps es fs bs cs new is entries bytes plays acts = grind (arith, common_steps)

-- The instruction that an app is at.
module _ (apps : List App) (k at : ℕ) (app : App) (items : List Instruction) (is : app ≡ get_or apps k app) (less : k < length apps)
    (of : items ≡ app.instructions.items) where
  acts_are : acts_of k (script_of apps) ≡ map instruction_view items
  acts_are = grind (arith, common_steps)

  pub act_at : (i : Instruction) → at < length items → i ≡ get_or items at i → slice_get (acts_of k (script_of apps)) at ≡ Some (instruction_view i)
  act_at i within found = grind (arith, common_steps, acts_are, slice_get-map, slice_get_read)

  pub no_act_at : length items ≤ at → slice_get (acts_of k (script_of apps)) at ≡ None
  no_act_at past = grind (arith, common_steps, acts_are, slice_get-map, slice_get_past)

-- An instruction of a right script is right.
act_right : (acts : List Act) → All IsRight acts → (at : ℕ) (act : Act) → slice_get acts at ≡ Some act → IsRight act
act_right [] right at act is = absurd cc
act_right (a ∷ acts) right zero act is = let same : a ≡ act = cc in subst IsRight same (right 0 a (omega arith))
act_right (a ∷ acts) right (suc at) act is = act_right acts (λ j d less. right (suc j) d (omega (arith, less))) at act is

acts_right : (script : RunScript) → AreRight script → (k : ℕ) → All IsRight (acts_of k script)
acts_right script right k = grind (arith, common_steps)

pub right_at : (script : RunScript) → AreRight script → (k at : ℕ) (act : Act) → slice_get (acts_of k script) at ≡ Some act → IsRight act
right_at script right k at act is = act_right (acts_of k script) (acts_right script right k) at act is
