-- The numbers and the text of summaries, worked out.
use Rattle.std.specs.Prelude.{◌≡◌, codes}
use Rattle.load_summary.specs.Summaries.{requests_of_put, load_line}

pub record WorkedRequests : Type 0 where
  pub none : requests_of_put 0 ≡ 1
  pub one : requests_of_put 1 ≡ 2
  pub whole_group : requests_of_put 65536 ≡ 2
  pub one_more : requests_of_put 65537 ≡ 3
  pub most : requests_of_put 16777216 ≡ 257

-- the lines of no byte and of `abc`
pub record WorkedLines : Type 0 where
  pub none : load_line 97 0 ≡ codes "length 0 requests 1 sha256 e3b0c44298fc1c149afbf4c8996fb92427ae41e4649b934ca495991b7852b855\n"
  pub three : load_line 97 3 ≡ codes "length 3 requests 2 sha256 ba7816bf8f01cfea414140de5dae2223b00361a396177a9cb410ff61f20015ad\n"
