-- The script of a number: one daemon announces so many services, another finds them, and then they end.
use Rattle.std.specs.Prelude.{ℕ, ◌+◌, ◌-◌, ◌/◌, ◌%◌, List, [], ◌∷◌, ◌++◌, map, codes, decimal, Some, None, false}
use Rattle.lists.specs.Lists.{count_up}
use Rattle.sd_call.specs.declared.request.Request.TheVariants.{Register, Browse}
use Rattle.mdns_history.specs.declared.event.Event.TheVariants.{Call, Detach}
use Rattle.mdns_script.specs.declared.command.Command.{Command}
use Rattle.mdns_script.specs.declared.command.Command.TheVariants.{Daemon, At, Seed, Delay, Attach, Event}
use Rattle.mdns_generator.specs.declared.requests.Kind.{Kind}
use Rattle.mdns_generator.specs.declared.requests.Kind.TheVariants as kind

-- how many services a session announces at most
abbrev pub most_services : ℕ
most_services = 64

-- how many sessions announce so many services
abbrev pub session_count : ℕ → ℕ
session_count n = (n + 63) / most_services

-- the label of service i: Svc-i
abbrev pub service_text : ℕ → List ℕ
service_text i = codes "Svc-" ++ decimal i

-- service type m: _gm._tcp
abbrev pub type_text : ℕ → List ℕ
type_text m = codes "_g" ++ (decimal m ++ codes "._tcp")

-- daemon K is booted, with a host of a name under local, at 10.0.0.K
abbrev pub booting : ℕ → List ℕ → Command
booting k name = Daemon k (record { address = 167772160 + k; host = Some (record { label = name; v6 = None }) })

-- a session of daemon 1 is opened
abbrev pub opening : ℕ → Command
opening session = Attach 1

-- service i is announced by daemon 1: of type i mod 7, at port 1000 + i, with empty TXT data
abbrev pub registering : ℕ → Command
registering i =
    let place = i - 1 in
    Event 1 (Call (place / most_services + 1) (place % most_services + 1) (Register (service_text i) (type_text (i % 7)) (1000 + i) false []))

-- daemon 2 browses for the services of type m
abbrev pub browsing : ℕ → Command
browsing m = Event 2 (Call 1 (m + 1) (Browse (type_text m)))

-- a session of daemon 1 is closed
abbrev pub closing : ℕ → Command
closing session = Event 1 (Detach session)

-- the command of a kind and a number
abbrev pub command_of : Kind → ℕ → Command
command_of kind.Open = opening
command_of kind.Register = registering
command_of kind.Browse = browsing
command_of kind.Close = closing

-- two daemons with random words of seed n, and packets that are under way for 5 ms
abbrev pub starting : ℕ → List Command
starting n = Seed n ∷ Delay 5 ∷ booting 1 (codes "g1") ∷ booting 2 (codes "g2") ∷ []

-- The script of n: daemon 1 announces n services, 64 in a session, daemon 2 browses for the seven types, and after ten seconds the
-- sessions of daemon 1 end.
unfoldable pub generated : ℕ → List Command
generated n =
    starting n
    ++ map opening (count_up 1 (session_count n))
    ++ map registering (count_up 1 n)
    ++ Attach 2 ∷ []
    ++ map browsing (count_up 0 7)
    ++ At 10000 ∷ []
    ++ map closing (count_up 1 (session_count n))
    ++ At 20000 ∷ []
