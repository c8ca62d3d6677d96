-- Worked examples: antt computes the definitions. Messages and digests are written by words, as NIST prints them.
use Rattle.std.specs.Prelude.{◌≡◌, ℕ, List, [], ◌∷◌, ◌++◌, replicate, slice_index_or, refl}
use Rattle.sha256.specs.Constants.{K}
use Rattle.sha256.specs.Sha256.{word_bytes, length_bytes, padded, words, next_word, extended, one_round, rounds, add_states}
use Rattle.sha256.specs.Sha256.{schedule, compress, hash_blocks, hash_all, digest_bytes, sha256}
use Rattle.sha256.specs.FourthBlock.{fourth_block}

-- the digest and all that it computes with: where this is unfolded, so are they
unfoldable pub sha256_computed : List ℕ → List ℕ
unfolding word_bytes length_bytes padded words next_word extended K one_round rounds add_states
    compress hash_blocks hash_all digest_bytes sha256
sha256_computed m = sha256 m

-- ""
empty_message : sha256 []
    ≡ word_bytes 0xe3b0_c442 ++ word_bytes 0x98fc_1c14 ++ word_bytes 0x9afb_f4c8 ++ word_bytes 0x996f_b924
    ++ word_bytes 0x27ae_41e4 ++ word_bytes 0x649b_934c ++ word_bytes 0xa495_991b ++ word_bytes 0x7852_b855
unfolding sha256_computed
empty_message = refl

-- "abc"
abc : sha256 (0x61 ∷ 0x62 ∷ 0x63 ∷ [])
    ≡ word_bytes 0xba78_16bf ++ word_bytes 0x8f01_cfea ++ word_bytes 0x4141_40de ++ word_bytes 0x5dae_2223
    ++ word_bytes 0xb003_61a3 ++ word_bytes 0x9617_7a9c ++ word_bytes 0xb410_ff61 ++ word_bytes 0xf200_15ad
unfolding sha256_computed
abc = refl

-- "abcdbcdecdefdefgefghfghighijhijkijkljklmklmnlmnomnopnopq", 56 bytes: two blocks
two_blocks : sha256
    (word_bytes 0x6162_6364 ++ word_bytes 0x6263_6465 ++ word_bytes 0x6364_6566 ++ word_bytes 0x6465_6667 ++ word_bytes 0x6566_6768
    ++ word_bytes 0x6667_6869 ++ word_bytes 0x6768_696a ++ word_bytes 0x6869_6a6b ++ word_bytes 0x696a_6b6c ++ word_bytes 0x6a6b_6c6d
    ++ word_bytes 0x6b6c_6d6e ++ word_bytes 0x6c6d_6e6f ++ word_bytes 0x6d6e_6f70 ++ word_bytes 0x6e6f_7071)
    ≡ word_bytes 0x248d_6a61 ++ word_bytes 0xd206_38b8 ++ word_bytes 0xe5c0_2693 ++ word_bytes 0x0c3e_6039
    ++ word_bytes 0xa33c_e459 ++ word_bytes 0x64ff_2167 ++ word_bytes 0xf6ec_edd4 ++ word_bytes 0x19db_06c1
unfolding sha256_computed
two_blocks = refl

-- the last word of the schedule of the fourth block, as another implementation has it: of 192 bytes, and of 191, which is another
fourth_of_192 : slice_index_or (schedule (fourth_block (replicate 192 0))) 63 0 ≡ 0x8d58_7738
unfolding sha256_computed
fourth_of_192 = refl

fourth_of_191 : slice_index_or (schedule (fourth_block (replicate 191 0))) 63 0 ≡ 0x028d_127b
unfolding sha256_computed
fourth_of_191 = refl
