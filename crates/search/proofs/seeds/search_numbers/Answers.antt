-- `seeds::search_numbers` meets its contract.
use Rattle.std.proofs.Common.{sym, ap}
use Rattle.model.specs.Search.{search_numbers}
use Rattle.search.specs.Numbers.{numbers_of}
use Rattle.search.proofs.seeds.search_numbers.Goals as goal

pub returns-in-Fast : goal.returns-in-Fast
unfolding numbers_of search_numbers
returns-in-Fast c = sym (ap search_numbers c.in-Fast.is)

pub returns-in-Balanced : goal.returns-in-Balanced
unfolding numbers_of search_numbers
returns-in-Balanced c = sym (ap search_numbers c.in-Balanced.is)

pub returns-in-Thorough : goal.returns-in-Thorough
unfolding numbers_of search_numbers
returns-in-Thorough c = sym (ap search_numbers c.in-Thorough.is)
