-- The command of words, by its parts.
use Rattle.std.proofs.Common.{◌≡◌, inl, inr, ℕ, List, Option, Some, None, Ok, Err, refl}
use Rattle.sd_call.specs.declared.request.Request.{Request}
use Rattle.sd_client.specs.declared.error.ClientError.TheVariants.{BadParam}
use Rattle.sd_client.specs.Requests.{IsMade}
use Rattle.sd_command.specs.Commands.{socket_words, count_words, request_words, command_of}

-- no socket
pub no_socket : (words : List (List ℕ)) → socket_words words ≡ None → command_of words ≡ None
unfolding command_of
no_socket words e = rw e

-- a socket, but no count
pub no_count : (words : List (List ℕ)) (path : List ℕ) (rest : List (List ℕ)) → socket_words words ≡ Some (path, rest) → count_words rest ≡ None → command_of words ≡ None
unfolding command_of
no_count words path rest e f = rw (e, f)

-- both, but no request
pub no_request : (words : List (List ℕ)) (path : List ℕ) (rest : List (List ℕ)) (count : Option ℕ) (more : List (List ℕ))
    → socket_words words ≡ Some (path, rest) → count_words rest ≡ Some (count, more) → request_words more ≡ None → command_of words ≡ None
unfolding command_of
no_request words path rest count more e f h = rw (e, f, h)

-- all of them
pub a_command : (words : List (List ℕ)) (path : List ℕ) (rest : List (List ℕ)) (count : Option ℕ) (more : List (List ℕ)) (request : Request)
    → socket_words words ≡ Some (path, rest) → count_words rest ≡ Some (count, more) → request_words more ≡ Some request
    → command_of words ≡ Some (record { socket = path; count = count; request = request })
unfolding command_of
a_command words path rest count more request e f h = rw (e, f, h)

-- the request that was made
pub made_some : (made : Option Request) (request : Request) → IsMade (Ok request) made → made ≡ Some request
made_some None request (inl h) = cc
made_some None request (inr h) = cc
made_some (Some other) request (inl h) = cc
made_some (Some other) request (inr h) = cc

-- no request was made
pub made_none : (made : Option Request) → IsMade {X = Request} (Err BadParam) made → made ≡ None
made_none None h = refl
made_none (Some other) (inl h) = cc
made_none (Some other) (inr h) = cc
