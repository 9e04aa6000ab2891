mod Faultless
