-- What a talk over a new connection does to the plug.
use Rattle.std.proofs.Common.{◌≡◌, ◌≢◌, ℕ, ◌+◌, ◌<◌, List, [], take, drop, length, Option, Some, Ok, sym, subst, ◌∙◌, arith}
use Rattle.std.specs.Io.KnownBytes.{Appends}
use Rattle.std.specs.List.{concat}
use Rattle.std.proofs.Math.Seq.{take-length}
use Rattle.mdns_base.specs.Outside.{Rose}
use Rattle.mdns_outside.specs.Plugs.{Tells, StaysTold, AddsOne, TakesComing, CountsBack}
use Rattle.sd_call.specs.declared.request.Request.{Request}
use Rattle.sd_ipc.specs.Frames.{request_frame}
use Rattle.sd_ipc.specs.Taking.{Told}
use Rattle.sd_client.specs.Connections.{Connection, Sends}
use Rattle.sd_command.specs.Hearing.{Heard}
use Rattle.sd_command.specs.Runs.{Says, HasRisen}
use Rattle.sd_command.specs.declared.ending.Ending.{Ending}
use Rattle.sd_command.specs.declared.ending.Ending.TheVariants.{Done, Usage, PeerFault, Refused, Ended, WriteFault, NoMemory, BadFrame, TooMany}

-- the whole frame is a beginning of it
pub says_whole : (ending : Ending) (frame : List ℕ) (old new : Option (List ℕ)) → Appends old new frame → Says ending frame old new
says_whole Done frame old new put = put
says_whole Usage frame old new put = put
says_whole PeerFault frame old new put = (length frame, subst (Appends old new) (sym (take-length frame)) put)
says_whole Refused frame old new put = put
says_whole Ended frame old new put = put
says_whole WriteFault frame old new put = put
says_whole NoMemory frame old new put = (length frame, subst (Appends old new) (sym (take-length frame)) put)
says_whole BadFrame frame old new put = put
says_whole TooMany frame old new put = put

-- the request was sent, and no more was said
pub says_request : (ending : Ending) (old mid new : Connection) (op next : ℕ) (request : Request) → old.next ≡ 1
    → Sends {T = ℕ} old mid old.next next (Some request) (Ok op) → new.said ≡ mid.said → Says ending (request_frame 1 request) old.said new.said
says_request ending old mid new op next request first s kept =
    let sent : ◌≡◌ {A = Option Request} (Some request) (Some s.0) = s.1 in
    let same : s.0 ≡ request = cc in
    let put : Appends old.said mid.said (request_frame old.next s.0) = s.2.gained in
    let numbered : Appends old.said mid.said (request_frame 1 s.0) = subst (λ (n : ℕ). Appends old.said mid.said (request_frame n s.0)) first put in
    let asked : Appends old.said mid.said (request_frame 1 request) = subst (λ (r : Request). Appends old.said mid.said (request_frame 1 r)) same numbered in
    says_whole ending (request_frame 1 request) old.said new.said (subst (λ (o : Option (List ℕ)). Appends old.said o (request_frame 1 request)) (sym kept) asked)

-- what was said, as the plug tells it behind the return of the connection
pub spoken : (ending : Ending) (frame : List ℕ) (before between after : Option (List (List ℕ))) (old new held : Option (List ℕ))
    → StaysTold before between → (Tells between → old ≡ Some []) → Says ending frame old new → held ≡ new
    → ((lists : List (List ℕ)) → after ≡ Some lists → (piece : List ℕ) × (held ≡ Some piece) × AddsOne between after piece)
    → (lists : List (List ℕ)) → after ≡ Some lists → (piece : List ℕ) × AddsOne before after piece × Says ending frame (Some []) (Some piece)
spoken ending frame before between after old new held stays empty says same back lists e =
    let b = back lists e in
    let a = b.2 lists e in
    let begun = subst (λ (o : Option (List ℕ)). Says ending frame o new) (empty (a.0, a.1)) says in
    let ended = subst (λ (o : Option (List ℕ)). Says ending frame (Some []) o) (sym same ∙ b.1) begun in
    (b.0, (λ l f. let m = b.2 l f in (m.0, stays m.0 m.1, m.2)), ended)

-- what was heard, of what the plug's peer had to say
pub heard_of_peer : (count : Option ℕ) (ending : Ending) (old new : Option (List ℕ)) (before between after : Option (List (List ℕ))) (left : Option (List ℕ))
    → TakesComing before between left → StaysTold between after → Told left (λ bytes. Heard count bytes ending old new)
    → (lists : List (List ℕ)) → after ≡ Some lists
    → (first : List (List ℕ)) × (before ≡ Some first) × (lists ≡ drop 1 first) × Heard count (concat (take 1 first)) ending old new
heard_of_peer count ending old new before between after left takes stays heard lists e =
    let t = takes lists (stays lists e) in (t.0, t.1, t.2, heard (concat (take 1 t.0)) t.3)

-- the plug's count, behind the return of the connection
pub plug_risen : (ending : Ending) (now : Connection) (source sink before between after : ℕ) → between ≡ before
    → source ≡ now.source_faults → sink ≡ now.sink_faults → CountsBack source sink between after
    → (ending ≡ PeerFault → 0 < now.source_faults + now.sink_faults) → (ending ≢ PeerFault → (now.source_faults ≡ 0) × (now.sink_faults ≡ 0))
    → HasRisen ending PeerFault before after
plug_risen ending now source sink before between after same at_source at_sink counts fault still = record {
  rose = λ e. let some : 0 < now.source_faults + now.sink_faults = fault e in
      subst (λ (n : ℕ). Rose n after) same (counts.rose (omega (arith, some, at_source, at_sink)));
  quiet = λ n. let none : (now.source_faults ≡ 0) × (now.sink_faults ≡ 0) = still n in
      counts.quiet (at_source ∙ none.0) (at_sink ∙ none.1) ∙ same;
}
