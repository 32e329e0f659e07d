-- The three tests are those of `Listed`'s own test: where one fails the list is refused, and else `make_all` has made it.
use Rattle.std.proofs.Common.{◌≡◌, ◌/◌, length, arith}
use Rattle.std.proofs.lemmas.Bool.Decides.{nat_tests}
use Rattle.lists.specs.Lists.{call_length, requests_in, requests_to, is_list, calls_in}
use Rattle.lists.proofs.ListLaws.{list_refused, list_made, exist_first, requests_first}
use Rattle.lists.proofs.list.Goals as goal

pub returns-then-not-is_empty : goal.returns-then-not-is_empty
unfolding is_list calls_in
returns-then-not-is_empty c = list_refused (grind (arith, nat_tests, exist_first))

pub returns : goal.returns
unfolding is_list calls_in
returns c =
    let ns = c.args.calls.now in
    let made = c.make_all.ensures in
    let same : requests_in c.as_chunks.result.0.now ≡ requests_to ns (calls_in ns) =
    rw c.as_chunks.ensures.front (requests_first (length ns / call_length) ns) in
    list_made (grind (arith, nat_tests, exist_first)) (λ k. (c.type_inv.calls k).fits) (rw same at made.0) (rw same at made.1)
