-- The numbers of 01, "Answers", under the names of RFC 5934, StatusCode; each is the associated constant of `Status` that bears its name.
use Rattle.octets.specs.declared.Status.{Status}

abbrev pub success : Status
success = record { number = 0 }

abbrev pub decode_failure : Status
decode_failure = record { number = 1 }

abbrev pub bad_content_info : Status
bad_content_info = record { number = 2 }

abbrev pub bad_signed_data : Status
bad_signed_data = record { number = 3 }

abbrev pub bad_encap_content : Status
bad_encap_content = record { number = 4 }

abbrev pub bad_certificate : Status
bad_certificate = record { number = 5 }

abbrev pub bad_signer_info : Status
bad_signer_info = record { number = 6 }

abbrev pub bad_signed_attrs : Status
bad_signed_attrs = record { number = 7 }

abbrev pub bad_unsigned_attrs : Status
bad_unsigned_attrs = record { number = 8 }

abbrev pub missing_content : Status
missing_content = record { number = 9 }

abbrev pub no_trust_anchor : Status
no_trust_anchor = record { number = 10 }

abbrev pub not_authorized : Status
not_authorized = record { number = 11 }

abbrev pub signature_failure : Status
signature_failure = record { number = 16 }

abbrev pub insufficient_memory : Status
insufficient_memory = record { number = 17 }

abbrev pub unsupported_tamp_msg_type : Status
unsupported_tamp_msg_type = record { number = 18 }

abbrev pub apex_tamp_anchor : Status
apex_tamp_anchor = record { number = 19 }

abbrev pub improper_ta_addition : Status
improper_ta_addition = record { number = 20 }

abbrev pub seq_num_failure : Status
seq_num_failure = record { number = 21 }

abbrev pub incorrect_target : Status
incorrect_target = record { number = 23 }

abbrev pub community_update_failed : Status
community_update_failed = record { number = 24 }

abbrev pub trust_anchor_not_found : Status
trust_anchor_not_found = record { number = 25 }

abbrev pub missing_signature : Status
missing_signature = record { number = 29 }

abbrev pub version_number_mismatch : Status
version_number_mismatch = record { number = 31 }

abbrev pub unsupported_trust_anchor_format : Status
unsupported_trust_anchor_format = record { number = 34 }

abbrev pub improper_ta_change : Status
improper_ta_change = record { number = 35 }

abbrev pub malformed : Status
malformed = record { number = 36 }

abbrev pub unsupported_target_identifier : Status
unsupported_target_identifier = record { number = 38 }

abbrev pub other : Status
other = record { number = 127 }

-- 01, Answers: the house refusals

abbrev pub bad_image : Status
bad_image = record { number = 201 }

abbrev pub bad_verdict : Status
bad_verdict = record { number = 202 }

abbrev pub small_buffer : Status
small_buffer = record { number = 203 }

abbrev pub long_message : Status
long_message = record { number = 204 }

abbrev pub long_reply : Status
long_reply = record { number = 205 }
